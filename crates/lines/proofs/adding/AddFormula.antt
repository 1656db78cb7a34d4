-- A line that states a formula: what its text is read as, and what each test of it leads to.
-- Assumes nothing.
use Rattle.std.specs.Prelude.{Err, Ok, Result}
use Prim.Native.Nat.{ℕ, ◌+◌, ◌-◌, ◌≤◌, ◌<◌}
use native.Mathlib.Omega.{arith}
use mathlib.Core.Path.{◌≡◌, refl, sym, subst, ap, ap₂, ◌∙◌}
use mathlib.Core.Bool.{Bool, true, false, not, cond}
use mathlib.Core.List.{List, ◌++◌, map-append}
use borrow.Author.Tests.{lt-ltb, le-ltb}
use lib.ListN.{length, take}
use lib.Seq.{sets}
use Rattle.syntax.specs.declared.lex.Token.{Token}
use Rattle.std.specs.Prelude.{Option, Some, None, ok_or}
use Rattle.basics.proofs.HandedOn.{there_is}
use Rattle.std.proofs.lemmas.Option.{none-some, same_Some}
use Rattle.grammar.specs.declared.phrase.Phrase.{Phrase}
use Rattle.syntax.specs.Lex.{tokens}
use Rattle.syntax.specs.Tree.{Tree, cells}
use Rattle.syntax.specs.Tree as trees
use Rattle.grammar.specs.Parse.{Res, none, some}
use Rattle.grammar.specs.PlanParse.{parse_formula}
use Rattle.grammar.specs.Names.{Name, bits, leaf_value}
use Rattle.grammar.specs.Answer.{answer, cells_after}
use Rattle.grammar.proofs.ReadIffDerived.{sound}
use Rattle.syntax.proofs.TreeLaws.{length_cells, stored_taken}
use Rattle.lines.specs.declared.refusal.Refusal.{Refusal}
use Rattle.lines.specs.declared.refusal.Refusal.TheVariants.{BadLine, BadFormula, UnknownName, TooManyParts}
use Rattle.lines.specs.declared.problem.Sizes.{Sizes}
use Rattle.basics.specs.Limits.{operator_limit, index_limit}
use Rattle.formula.specs.Limits.{part_limit}
use Rattle.formula.specs.Formula.{Formula, size, operators}
use Rattle.formula.specs.Parts.{temporals, parts_from}
use Rattle.formula.specs.Codes.{code_of, codes_of}
use Rattle.lines.specs.Lines.{is_text}
use Rattle.lines.specs.Effect.{Signals, formula_of, all_declared, joint, is_large, Effect, states, refuses, state_effect}
use Rattle.syntax.specs.Cells.{codes_from, kinds_in}
use Rattle.lines.specs.Memory.{join_part, stored_from, more_parts, reading_after, parts_after, cells_reading, cells_stored}
use Rattle.basics.proofs.Stores.{sets_append}
use Rattle.syntax.proofs.CellsLaws.{length_codes}
use Rattle.lines.proofs.TreeCodes.{Stands, derived_stands, operators_standing}
use Rattle.lines.proofs.DeclaredNames.{leaf_values}

-- ---- what a text is read as

module _ (names : List Name) (text : List ℕ) where
  abbrev values : Token → ℕ
  values = leaf_value names text

  abbrev pub formula_in : Tree → Formula
  formula_in a = formula_of values a

  -- the text is a formula of so many parts
  pub record Parsed (count : ℕ) : Type 0 where
    pub tree : Tree
    pub next : ℕ
    pub is : parse_formula text ≡ some tree next
    pub counted : count ≡ trees.size tree

  -- and these are its cells
  pub record Formed (cs : List ℕ) : Type 0 where
    pub tree : Tree
    pub next : ℕ
    pub is : parse_formula text ≡ some tree next
    pub sized : length cs ≡ size (formula_in tree)
    pub counted : temporals (kinds_in cs) ≡ operators (formula_in tree)
    pub codes : (n : ℕ) → codes_from n cs ≡ codes_of (parts_from (formula_in tree) n)

  module _ {r : Option Phrase} (e : r ≡ answer (parse_formula text) 0) where
    pub not_parsed : r ≡ None → parse_formula text ≡ none
    not_parsed h = go (parse_formula text) (sym e ∙ h)
      where
        go : (res : Res) → answer res 0 ≡ None → res ≡ none
        go none i = refl
        go (some a next) i = absurd (none-some _ (sym i))

    pub parsed : (x : Refusal) {ph : Phrase} → ok_or r x ≡ Ok ph → Parsed ph.count
    parsed x {ph} h = go (parse_formula text) refl (sym e ∙ there_is r x ph h)
      where
        go : (res : Res) → parse_formula text ≡ res → answer res 0 ≡ Some ph → Parsed ph.count
        go none i a = absurd (none-some _ a)
        go (some b m) i a =
            record { tree = b; next = m; is = i; counted = omega (arith, ap (λ (p : Phrase). p.count) (same_Some _ _ a)) }

  module _ (l : length names ≡ bits) {count : ℕ} (f : Parsed count) where
    stands : Stands (cells values f.tree) (formula_in f.tree)
    stands =
        derived_stands (leaf_values names text l) text (sound text f.tree f.next f.is)

    cells_count : length (cells values f.tree) ≡ count
    cells_count = length_cells values f.tree ∙ sym f.counted

    pub size_count : size (formula_in f.tree) ≡ count
    size_count = sym stands.sized ∙ cells_count

    -- the cells that were written to a list that has room for them
    module _ (p : List ℕ) {q : List ℕ} (w : q ≡ cells_after values (parse_formula text) p) (h : count ≤ length p)
        (few : count ≤ part_limit) where
      taken : take count q ≡ cells values f.tree
      taken =
          ap₂ take f.counted (w ∙ ap (λ res. cells_after values res p) f.is)
          ∙ stored_taken values f.tree p (omega (arith, f.counted, h))

      pub taken_count : length (take count q) ≡ count
      taken_count = ap length taken ∙ cells_count

      pub formed : Formed (take count q)
      formed =
          let few' : size (formula_in f.tree) ≤ index_limit = omega (arith, size_count, few) in
          subst Formed (sym taken)
          (record {
            tree = f.tree;
            next = f.next;
            is = f.is;
            sized = stands.sized;
            counted = operators_standing stands few';
            codes = stands.codes few';
          })

-- ---- what the line's effect is

module _ (line : ℕ) (text : List ℕ) (g : Signals) (n m : ℕ) where
  pub bad_line : is_text text ≡ false → state_effect line text g n m ≡ refuses (BadLine line)
  unfolding state_effect
  bad_line e = rw e

  module _ (t : is_text text ≡ true) where
    pub bad_formula : parse_formula text ≡ none → state_effect line text g n m ≡ refuses (BadFormula line)
    unfolding state_effect
    bad_formula e = rw (t, e)

    module _ (a : Tree) (next : ℕ) (e : parse_formula text ≡ some a next) where
      abbrev φ : Formula
      φ = formula_of (leaf_value g.names text) a

      pub unknown_name : all_declared g text (tokens text 0) ≡ false → state_effect line text g n m ≡ refuses (UnknownName line)
      unfolding state_effect
      unknown_name d = rw (t, e, d)

      -- more parts than any problem may have
      pub too_many : all_declared g text (tokens text 0) ≡ true → part_limit < size φ
          → state_effect line text g n m ≡ refuses (TooManyParts line)
      unfolding state_effect
      too_many d h = rw (t, e, d, lt-ltb part_limit (n + size φ + joint n) (omega arith))

      pub read_effect_lem : all_declared g text (tokens text 0) ≡ true
          → state_effect line text g n m ≡ cond (is_large n m φ) (refuses (TooManyParts line)) (states φ)
      unfolding state_effect
      read_effect_lem d = rw (t, e, d)

-- ---- what is answered

-- the answer and the parts after an effect
abbrev pub Answers : Effect → Sizes → List ℕ → List ℕ → Result Sizes Refusal → Type 0
Answers x s p q r = (r ≡ reading_after x s) × (q ≡ parts_after x s p)

pub refused : (x : Effect) (r : Refusal) (s : Sizes) (p : List ℕ) → x ≡ refuses r → Answers x s p p (Err r)
refused x r s p e = subst (λ y. Answers y s p p (Err r)) (sym e) (refl, refl)

-- the answer and the parts after some cells
abbrev pub Left : List ℕ → ℕ → Sizes → List ℕ → List ℕ → Result Sizes Refusal → Type 0
Left cs line s p q r = (r ≡ cells_reading cs line s) × (q ≡ cells_stored cs s p)

-- with the cells there are `count` parts, and `all` with the one that joins them
module _ (cs : List ℕ) (line : ℕ) (s : Sizes) (p : List ℕ) (count all : ℕ) (c : count ≡ s.parts + length cs)
    (j : all ≡ count + joint s.parts) where
  all_is : all ≡ s.parts + length cs + joint s.parts
  all_is = j ∙ ap (λ k. k + joint s.parts) c

  pub many_parts : part_limit < all → Left cs line s p p (Err (TooManyParts line))
  many_parts h = rw (← all_is, lt-ltb part_limit all h) (refl, refl)

  module _ (h : all ≤ part_limit) (o : ℕ) (e : o ≡ temporals (kinds_in cs)) where
    pub many_operators : operator_limit < s.operators + o → Left cs line s p p (Err (TooManyParts line))
    many_operators u = rw (← all_is, le-ltb part_limit all h, ← e, lt-ltb operator_limit (s.operators + o) u) (refl, refl)

    pub few_operators : s.operators + o ≤ operator_limit → (q r : List ℕ) → q ≡ sets p s.parts (codes_from s.parts cs)
        → r ≡ stored_from (join_part s.parts (count - s.parts)) count q
        → Left cs line s p r (Ok (record {
          outputs = s.outputs;
          observed = s.observed;
          hidden = s.hidden;
          parts = all;
          operators = s.operators + o;
          order = s.order;
        }))
    few_operators u q r i l =
        let k : count - s.parts ≡ length cs = omega arith in
        let joined : r ≡ sets p s.parts (codes_from s.parts cs ++ codes_of (join_part s.parts (length cs))) =
        l ∙ ap₂ (λ m x. stored_from (join_part s.parts m) count x) k i
        ∙ ap (λ m. stored_from (join_part s.parts (length cs)) m (sets p s.parts (codes_from s.parts cs)))
        (c ∙ ap (λ m. s.parts + m) (sym (length_codes s.parts cs)))
        ∙ sym (sets_append p s.parts (codes_from s.parts cs) (codes_of (join_part s.parts (length cs)))) in
        rw (← all_is, le-ltb part_limit all h, ← e, le-ltb operator_limit (s.operators + o) u) (refl, joined)

-- the cells of a formula leave what its line does
module _ {names : List Name} {text cs : List ℕ} (f : Formed names text cs) (line : ℕ) (s : Sizes) (p : List ℕ) where
  abbrev stated : Formula
  stated = formula_in names text f.tree

  abbrev by_fit : Bool → Effect
  by_fit b = cond b (refuses (TooManyParts line)) (states stated)

  by_fit_lem : (b : Bool) → Answers (by_fit b) s p
      (cond (not b) (sets p s.parts (codes_of (parts_from stated s.parts) ++ codes_of (join_part s.parts (size stated)))) p)
      (cond (not b) (Ok (more_parts (size stated) (operators stated) s)) (Err (TooManyParts line)))
  by_fit_lem true = (refl, refl)
  by_fit_lem false = (refl, ap (sets p s.parts) (sym (map-append code_of (parts_from stated s.parts) (join_part s.parts (size stated)))))

  pub left_answers : (x : Effect) → x ≡ by_fit (is_large s.parts s.operators stated) → {q : List ℕ} {r : Result Sizes Refusal}
      → Left cs line s p q r → Answers x s p q r
  left_answers x e l = rw (e, l.0, l.1, f.sized, f.counted, f.codes s.parts) (by_fit_lem (is_large s.parts s.operators stated))
