use Prim.Native.Nat.{◌+◌}
use mathlib.Core.Path.{refl, sym, ap, ap₂, ◌∙◌}
use lib.ListN.{set}
use Rattle.std.proofs.lemmas.List.{map-set}
use Rattle.grammar.specs.Names.{names_in}
use Rattle.lines.proofs.declaring.DeclareSignal.{no_name, name_twice, kind_full, all_full, new_signal}
use Rattle.lines.proofs.declaring.declare.Goals as goal

pub returns-then-not-is_name : goal.returns-then-not-is_name
returns-then-not-is_name c =
    let whole = no_name c.args.line c.args.kind c.args.name.now c.args.s (names_in c.args.names.now) (sym c.is_name.ensures ∙ c.if-not-is_name.true) in
    record { value = whole.0; names_after = whole.1; stored = tt; kept = refl }

pub returns-then-is_some : goal.returns-then-is_some
returns-then-is_some c =
    let n = sym c.is_name.ensures ∙ c.if-not-is_name.false in
    let d = sym c.is_some.ensures ∙ c.if-is_some.true in
    let whole = name_twice c.args.line c.args.kind c.args.name.now c.args.s (names_in c.args.names.now) n c.lookup.ensures d in
    record { value = whole.0; names_after = whole.1; stored = tt; kept = refl }

pub returns-then-n-eq-KIND_LIMIT : goal.returns-then-n-eq-KIND_LIMIT
returns-then-n-eq-KIND_LIMIT c =
    let n = sym c.is_name.ensures ∙ c.if-not-is_name.false in
    let d = sym c.is_some.ensures ∙ c.if-is_some.false in
    let whole = kind_full c.args.line c.args.kind c.args.name.now c.args.s (names_in c.args.names.now) n c.lookup.ensures d
    (sym c.count_in-n.ensures ∙ c.if-n-eq-KIND_LIMIT.true) in
    record { value = whole.0; names_after = whole.1; stored = tt; kept = refl }

pub returns-then-s-eq-SIGNAL_LIMIT : goal.returns-then-s-eq-SIGNAL_LIMIT
returns-then-s-eq-SIGNAL_LIMIT c =
    let n = sym c.is_name.ensures ∙ c.if-not-is_name.false in
    let d = sym c.is_some.ensures ∙ c.if-is_some.false in
    let whole = all_full c.args.line c.args.kind c.args.name.now c.args.s (names_in c.args.names.now) n c.lookup.ensures d c.if-s-eq-SIGNAL_LIMIT.true in
    record { value = whole.0; names_after = whole.1; stored = tt; kept = refl }

pub returns : goal.returns
returns c =
    let bit = ap₂ ◌+◌ c.first_bit.ensures c.count_in-n.ensures in
    let n = sym c.is_name.ensures ∙ c.if-not-is_name.false in
    let d = sym c.is_some.ensures ∙ c.if-is_some.false in
    let whole = new_signal c.args.line c.args.kind c.args.name.now c.args.s (names_in c.args.names.now) n c.lookup.ensures d
    (λ e. c.if-n-eq-KIND_LIMIT.false (c.count_in-n.ensures ∙ e)) c.if-s-eq-SIGNAL_LIMIT.false c.more_signals.result
    c.more_signals.ensures (c.first_bit.result + c.count_in-n.result) bit in
    record {
      value = whole.0;
      names_after = simp map-set whole.1;
      stored = ap (λ b. set c.args.names.now b c.args.name) bit;
      kept = tt;
    }
