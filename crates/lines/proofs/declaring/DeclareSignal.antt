-- A line that declares a signal: what each way through its tests answers. Assumes nothing.
use Rattle.lines.specs.declared.refusal.Refusal.{Refusal}
use Rattle.std.specs.Prelude.{Err, Ok, Result, Option}
use Rattle.std.specs.Option.{is_some}
use Prim.Native.Nat.{ℕ, ◌+◌}
use mathlib.Core.Path.{◌≡◌, refl, sym, ap, ◌∙◌}
use mathlib.Core.Bool.{true, false, or-true}
use mathlib.Core.List.{List}
use borrow.Author.Tests.{eq-eqb, ne_eqb}
use lib.Dec.{eqb}
use lib.ListN.{set}
use Rattle.grammar.specs.Names.{Name, bit_of}
use Rattle.lines.specs.declared.refusal.Refusal.TheVariants.{BadLine, NameTwice, TooManySignals}
use Rattle.lines.specs.declared.problem.Kind.{Kind}
use Rattle.lines.specs.declared.problem.Kind.TheVariants.{Output, Observed, Hidden}
use Rattle.lines.specs.declared.problem.Sizes.{Sizes}
use Rattle.basics.specs.Limits.{kind_limit}
use Rattle.lines.specs.Lines.{is_name}
use Rattle.lines.specs.Effect.{Signals, count, is_declared, first_bit, Effect, refuses, declares, declare_effect}
use Rattle.lines.specs.Memory.{signals_in, count_in, more_signals, reading_after, names_after}
use Rattle.lines.proofs.DeclaredNames.{declared_some}

count_is : (k : Kind) (s : Sizes) (names : List Name) → count k (signals_in s names) ≡ count_in k s
count_is Output s names = refl
count_is Observed s names = refl
count_is Hidden s names = refl

-- ---- the answers

module _ (line : ℕ) (k : Kind) (name : Name) (s : Sizes) (names : List Name) where
  abbrev g : Signals
  g = signals_in s names

  abbrev pub Answers : Result Sizes Refusal → List Name → Type 0
  Answers r names' = (r ≡ reading_after (declare_effect line k name g) s) × (names' ≡ names_after (declare_effect line k name g) s names)

  answers : (e : Effect) → declare_effect line k name g ≡ e → Answers (reading_after e s) (names_after e s names)
  answers e h = (ap (λ x. reading_after x s) (sym h), ap (λ x. names_after x s names) (sym h))

  pub no_name : is_name name ≡ false → Answers (Err (BadLine line)) names
  unfolding declare_effect
  no_name n = answers (refuses (BadLine line)) (rw n)

  module _ (n : is_name name ≡ true) {r : Option ℕ} (it : r ≡ bit_of name names) where
    pub name_twice : is_some r ≡ true → Answers (Err (NameTwice line)) names
    unfolding declare_effect
    name_twice h = answers (refuses (NameTwice line)) (rw (n, sym (declared_some g name it) ∙ h))

    module _ (h : is_some r ≡ false) where
      d : is_declared g name ≡ false
      d = sym (declared_some g name it) ∙ h

      pub kind_full : count_in k s ≡ kind_limit → Answers (Err (TooManySignals line)) names
      unfolding declare_effect
      kind_full e = answers (refuses (TooManySignals line)) (rw (n, d, count_is k s names, eq-eqb (count_in k s) kind_limit e))

      pub all_full : s.outputs + s.observed + s.hidden ≡ 9 → Answers (Err (TooManySignals line)) names
      unfolding declare_effect
      all_full e =
          answers (refuses (TooManySignals line))
          (rw (n, d, eq-eqb (s.outputs + s.observed + s.hidden) 9 e, or-true (eqb (count k g) kind_limit)))

      pub new_signal : (count_in k s ≡ kind_limit → ⊥) → (s.outputs + s.observed + s.hidden ≡ 9 → ⊥) → (m : Sizes) → m ≡ more_signals k s
          → (b : ℕ) → b ≡ first_bit k + count_in k s → Answers (Ok m) (set names b name)
      unfolding declare_effect
      new_signal c a m em b eb =
          rw (em, eb, ← count_is k s names)
          (answers (declares k name)
          (rw (n, d, count_is k s names, ne_eqb (count_in k s) kind_limit c, ne_eqb (s.outputs + s.observed + s.hidden) 9 a)))
