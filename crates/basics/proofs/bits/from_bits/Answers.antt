use Prim.Native.Nat.{suc, ◌-◌}
use native.Mathlib.Nat.{pow-suc}
use native.Mathlib.Omega.{arith}
use mathlib.Core.Path.{◌≡◌, ap, ◌∙◌}
use lib.Arith.{digits_lt}
use lib.Pow.{pow_pos}
use Rattle.basics.specs.Bits.{digit}
use Rattle.basics.proofs.BitsLaws.{table_from, from_all, bits_none, bits_more, bits_done, digit_lt}
use Rattle.basics.proofs.bits.from_bits.Goals as goal

pub loop-j-init : goal.loop-j-init
loop-j-init g c =
    let none : 0 ≡ c.args.n - c.args.n = omega arith in
    record { small = pow_pos (c.args.n - c.args.n); bits = λ f e. bits_none c.args.n f ∙ ap (table_from f c.args.n) none }

pub loop-j-preserved : goal.loop-j-preserved
loop-j-preserved g c =
    let more : c.args.n - (c.loop-j.j - 1) ≡ suc (c.args.n - c.loop-j.j) = omega arith in
    record {
      small = rw (more, pow-suc) (digits_lt c.loop-j.invariant.small (digit_lt c.bit.result));
      bits = λ f e.
          bits_more c.args.n f c.loop-j.x c.loop-j.j (digit c.bit.result) c.loop-j-test.true (omega arith) (c.loop-j.invariant.bits f e)
          (ap digit (e (c.loop-j.j - 1) c.bit.result (omega arith) c.bit.ensures));
    }

pub returns : goal.returns
returns g c f e = bits_done c.args.n f c.loop-j.x c.loop-j.j c.loop-j-test.false (c.loop-j.invariant.bits f e) ∙ from_all f c.args.n
