-- The order of a problem is what its line `order` says, wherever it stands, and the default where there is none.
-- Assumes nothing.
use Rattle.std.specs.Prelude.{None, Some}
use Prim.Native.Nat.{ℕ}
use mathlib.Core.Path.{◌≡◌, refl, sym, ap, ◌∙◌}
use mathlib.Core.List.Memᴰ
use mathlib.Core.List.{List}
use Rattle.basics.specs.Member.{◌∈◌}
use Rattle.basics.specs.declared.order.Order.{Order}
use Rattle.lines.specs.Lines.{SourceLine, ended, lines, order_line}
use Rattle.lines.specs.StepOrder.{default_order, order_or}
use Rattle.lines.proofs.LineCases.{declare_no_order, rule_no_order, open_fixed, same_order}
use Rattle.rules.specs.Problem.{Draft, Problem}
use Rattle.rules.specs.Denotes.{Reads, declared, stated, ordered, Make, done, next, Denotes}

same_bytes_lem : (l m : List ℕ) → ended l ≡ ended m → l ≡ m
same_bytes_lem l m e = cc

-- ---- one line

module _ (o : Order) where
  -- a line that says an order fixes it
  fixes : {d d' : Draft} {l : List ℕ} → Reads d l d' → l ≡ order_line o → d'.order ≡ Some o
  fixes (declared k name named new few) e = absurd (declare_no_order k name o e)
  fixes (stated text a is derives known fits) e = absurd (rule_no_order text o e)
  fixes (ordered x first) e = ap Some (same_order x o e)

  -- and it stays fixed
  stays : {d d' : Draft} {l : List ℕ} → Reads d l d' → d.order ≡ Some o → d'.order ≡ Some o
  stays (declared k name named new few) e = e
  stays (stated text a is derives known fits) e = e
  stays (ordered x first) e = absurd (open_fixed (sym first ∙ e))

-- a line that says none leaves it open
leaves : {d d' : Draft} {l : List ℕ} → Reads d l d' → ((o : Order) → ¬ (l ≡ order_line o)) → d.order ≡ None → d'.order ≡ None
leaves (declared k name named new few) n e = e
leaves (stated text a is derives known fits) n e = e
leaves (ordered x first) n e = absurd (n x refl)

-- ---- the lines that are left

make_fixed : (o : Order) {d : Draft} {ls : List SourceLine} {p : Problem} → Make d ls p → d.order ≡ Some o → p.order ≡ o
make_fixed o (done some) e = ap order_or e
make_fixed o (next d' r m) e = make_fixed o m (stays o r e)

make_said : (o : Order) {d : Draft} {ls : List SourceLine} {p : Problem} → Make d ls p → ended (order_line o) ∈ ls → p.order ≡ o
make_said o (done some) i = absurd (Memᴰ.not-nil i)
make_said o (next d' r m) (Memᴰ.head e) = make_fixed o m (fixes o r (sym (same_bytes_lem (order_line o) _ e)))
make_said o (next d' r m) (Memᴰ.tail i) = make_said o m i

make_unsaid : {d : Draft} {ls : List SourceLine} {p : Problem} → Make d ls p → ((o : Order) → ¬ (ended (order_line o) ∈ ls)) → d.order ≡ None
    → p.order ≡ default_order
make_unsaid (done some) n e = ap order_or e
make_unsaid (next d' r m) n e =
    make_unsaid m (λ o i. n o (Memᴰ.tail i)) (leaves r (λ o q. n o (Memᴰ.head (ap ended (sym q)))) e)

-- ---- a whole text

module _ (source : List ℕ) (p : Problem) (d : Denotes source p) where
  pub order_said : (o : Order) → ended (order_line o) ∈ lines source → p.order ≡ o
  order_said o i = make_said o d.make i

  pub order_unsaid : ((o : Order) → ¬ (ended (order_line o) ∈ lines source)) → p.order ≡ default_order
  order_unsaid n = make_unsaid d.make n refl
