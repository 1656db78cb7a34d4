use native.Mathlib.Omega.{arith}
use Rattle.std.proofs.Common.{length, ◌+◌, ◌-◌, refl, ap, ◌∙◌}
use Rattle.std.proofs.lemmas.Slice.{put_mid-paste}
use lib.Seq.{length-sets}
use Rattle.basics.proofs.Stores.{paste_all}
use Rattle.basics.proofs.text.Writer.bytes.Goals as goal

pub returns : goal.returns
returns c =
    let w = c.args.self.now in
    let n = length c.args.bytes.now in
    let put = put_mid-paste w.at (w.at + n - w.at) w.text.now c.copy_from_slice.new.self c.args.bytes.now n c.copy_from_slice.ensures.after (omega arith) refl in
    let text = paste_all w.text.now w.at c.args.bytes.now n c.requires refl _ put in
    record { at = refl; text = text; same = refl; long = ap length text ∙ length-sets w.text.now w.at c.args.bytes.now }
