-- The cells that the reader of a text writes are those of the formula's parts.
-- Assumes nothing.
use Prim.Native.Nat.{ℕ, zero, suc, ◌+◌, ◌-◌, ◌*◌, ◌%◌, ◌≤◌, ◌<◌}
use native.Mathlib.Omega.{arith}
use mathlib.Core.Path.{◌≡◌, refl, sym, subst, ap, ap₂, ◌∙◌}
use mathlib.Core.Bool.{Bool, true, false}
use mathlib.Core.List.{List, [], ◌∷◌, ◌++◌, append_assoc, map-append}
use lib.Dec.{eqb}
use lib.ListN.{length}
use Rattle.basics.specs.Limits.{index_limit}
use Rattle.syntax.specs.declared.lex.Token.{Token}
use Rattle.syntax.specs.declared.plans.PlanWord.{PlanWord}
use Rattle.syntax.specs.declared.plans.PlanWord.TheVariants.{Once, Before, After, Within, During}
use Rattle.syntax.specs.Kinds.{name_kind, not_kind, next_kind, weak_next_kind, eventually_kind, always_kind, and_kind, or_kind, until_kind}
use Rattle.syntax.specs.Cells.{cell, one_sided, two_sided, prefix_cells, infix_cells, code_at, codes_from, kinds_in}
use Rattle.syntax.specs.Plans.{chain_cells, delay_cells, plan_cells}
use Rattle.syntax.specs.Tree.{Tree, cells}
use Rattle.syntax.proofs.CellsLaws.{leaf_code, prefix_code, infix_code, codes_append}
use Rattle.syntax.proofs.PlansLaws.{prefix_length, infix_length}
use Rattle.grammar.specs.Grammar.{is_op, is_pre, is_leaf, Derives, tighter, to_left, to_right, prefixed, plain, grouped, other}
use Rattle.grammar.specs.Grammar.{table, propositional, Plan, over_one, over_two, Derived}
use Rattle.grammar.proofs.GrammarLaws.{leaf_cases, pre_cases, op_cases}
use Rattle.formula.specs.Formula.{Formula, False, Not, And, Or, X, N, F, G, U, size, operators}
use Rattle.formula.specs.Parts.{byte_of, op_of, temporals, one_part, unary_parts, binary_parts, parts_from, build}
use Rattle.formula.specs.Codes.{code_of, codes_of}
use Rattle.formula.specs.Constraints.{soon, hold, delay}
use Rattle.formula.proofs.CodesLaws.{byte_small, Held, Coded, held_one, held_unary, held_binary}
use Rattle.formula.proofs.TemporalCount.{temporals_from}
use Rattle.lines.specs.Effect.{plan_formula, formula_of}
use Rattle.lines.proofs.CellKinds.{kinds_from, kinds_of_lem}

-- ---- what a kind of token makes, by how many operands it takes

record Nullary (k : ℕ) : Type 0 where
  byte : byte_of (op_of k) ≡ k
  sized : (b : ℕ) → size (build (op_of k) b False False) ≡ 1
  parts : (b n : ℕ) → (eqb k name_kind ≡ false → b ≡ 0) → parts_from (build (op_of k) b False False) n ≡ one_part (op_of k) b 0

record Unary (k : ℕ) : Type 0 where
  byte : byte_of (op_of k) ≡ k
  sized : (φ : Formula) → size (build (op_of k) 0 φ False) ≡ size φ + 1
  parts : (φ : Formula) (n : ℕ) → parts_from (build (op_of k) 0 φ False) n ≡ unary_parts (op_of k) φ n (parts_from φ n)

record Binary (k : ℕ) : Type 0 where
  byte : byte_of (op_of k) ≡ k
  sized : (φ ψ : Formula) → size (build (op_of k) 0 φ ψ) ≡ size φ + size ψ + 1
  parts : (φ ψ : Formula) (n : ℕ)
      → parts_from (build (op_of k) 0 φ ψ) n ≡ binary_parts (op_of k) φ ψ n (parts_from φ n) (parts_from ψ (n + size φ))

nullary : (k : ℕ) → is_leaf k ≡ true → Nullary k
unfolding op_of size parts_from
nullary =
    leaf_cases Nullary (record { byte = refl; sized = λ b. refl; parts = λ b n z. refl })
    (record { byte = refl; sized = λ b. refl; parts = λ b n z. rw (z refl) })
    (record { byte = refl; sized = λ b. refl; parts = λ b n z. rw (z refl) })

unary : (m : Bool) (k : ℕ) → is_pre m k ≡ true → Unary k
unfolding op_of size parts_from
unary =
    pre_cases Unary (record { byte = refl; sized = λ φ. refl; parts = λ φ n. refl })
    (record { byte = refl; sized = λ φ. refl; parts = λ φ n. refl }) (record { byte = refl; sized = λ φ. refl; parts = λ φ n. refl })
    (record { byte = refl; sized = λ φ. refl; parts = λ φ n. refl }) (record { byte = refl; sized = λ φ. refl; parts = λ φ n. refl })

binary : (m : Bool) (l k : ℕ) → is_op m l k ≡ true → Binary k
unfolding op_of size parts_from
binary =
    op_cases (λ l k. Binary k) (record { byte = refl; sized = λ φ ψ. refl; parts = λ φ ψ n. refl })
    (record { byte = refl; sized = λ φ ψ. refl; parts = λ φ ψ n. refl }) (record { byte = refl; sized = λ φ ψ. refl; parts = λ φ ψ n. refl })
    (record { byte = refl; sized = λ φ ψ. refl; parts = λ φ ψ n. refl }) (record { byte = refl; sized = λ φ ψ. refl; parts = λ φ ψ n. refl })

kind_small : {k : ℕ} → byte_of (op_of k) ≡ k → k < 256
kind_small {k} e = subst (λ n. n < 256) e (byte_small (op_of k))

-- ---- cells that stand for a formula: as many as its parts, and the numbers made of them are those of its parts, wherever they are put. That
-- numbers hold these parts is shown along the same steps.

pub record Stands (cs : List ℕ) (φ : Formula) : Type 0 where
  pub sized : length cs ≡ size φ
  pub codes : size φ ≤ index_limit → (n : ℕ) → codes_from n cs ≡ codes_of (parts_from φ n)
  pub coded : Coded φ

leaf_stands : (k v : ℕ) → Nullary k → v < index_limit → (eqb k name_kind ≡ false → v ≡ 0)
    → Stands (cell k (v % 256) ∷ []) (build (op_of k) v False False)
unfolding codes_from
leaf_stands k v w small constant =
    record {
      sized = sym (w.sized v);
      codes = λ h n. ap (λ m. m ∷ []) (leaf_code k v n (kind_small w.byte) small ∙ ap (λ k. k + 256 * v + 65536 * 0) (sym w.byte))
          ∙ ap codes_of (sym (w.parts v n constant));
      coded = λ n h. subst Held (sym (w.parts v n constant)) (held_one (op_of k) v 0 small (omega arith));
    }

prefix_stands : (k : ℕ) → Unary k → {cs : List ℕ} {φ : Formula} → Stands cs φ → Stands (prefix_cells k cs) (build (op_of k) 0 φ False)
unfolding codes_from
prefix_stands k w {cs} {φ} s =
    record {
      sized = prefix_length k cs ∙ ap (λ n. n + 1) s.sized ∙ sym (w.sized φ);
      codes = λ h n. codes_append n cs (cell k one_sided ∷ [])
          ∙ ap₂ (λ ds i. ds ++ (code_at (n + i) (cell k one_sided) ∷ [])) (s.codes (omega (arith, w.sized φ)) n) s.sized
          ∙ ap (λ m. codes_of (parts_from φ n) ++ (m ∷ [])) (prefix_code k (n + size φ) (kind_small w.byte)
          ∙ ap (λ k. k + 256 * (n + size φ - 1) + 65536 * 0) (sym w.byte))
          ∙ sym (map-append code_of (parts_from φ n) (one_part (op_of k) (n + size φ - 1) 0)) ∙ ap codes_of (sym (w.parts φ n));
      coded = λ n h. subst Held (sym (w.parts φ n)) (held_unary (op_of k) φ s.coded n (omega (arith, w.sized φ)));
    }

infix_stands : (k : ℕ) → Binary k → {cs ds : List ℕ} {φ ψ : Formula} → Stands cs φ → Stands ds ψ
    → Stands (infix_cells k cs ds) (build (op_of k) 0 φ ψ)
unfolding codes_from
infix_stands k w {cs} {ds} {φ} {ψ} s t =
    let z = w.sized φ ψ in
    record {
      sized = infix_length k cs ds ∙ ap₂ (λ m n. m + n + 1) s.sized t.sized ∙ sym z;
      codes = λ h n.
          let last = cell k (two_sided (length ds)) in
          let ps = parts_from φ n in
          let qs = parts_from ψ (n + size φ) in
          let top = one_part (op_of k) (n + size φ - 1) (n + size φ + size ψ - 1) in
          let g : n + size φ + size ψ - 1 - length ds ≡ n + size φ - 1 = omega (arith, t.sized) in
          codes_append n cs (ds ++ (last ∷ []))
          ∙ ap₂ (λ xs i. xs ++ codes_from (n + i) (ds ++ (last ∷ []))) (s.codes (omega (arith, z)) n) s.sized
          ∙ ap (λ xs. codes_of ps ++ xs) (codes_append (n + size φ) ds (last ∷ [])
          ∙ ap₂ (λ xs i. xs ++ (code_at (n + size φ + i) last ∷ [])) (t.codes (omega (arith, z)) (n + size φ)) t.sized
          ∙ ap (λ m. codes_of qs ++ (m ∷ []))
          (infix_code k (length ds) (n + size φ + size ψ) (kind_small w.byte) (omega (arith, z, t.sized))
          ∙ ap₂ (λ k l. k + 256 * l + 65536 * (n + size φ + size ψ - 1)) (sym w.byte) g))
          ∙ sym (map-append code_of (ps ++ qs) top ∙ ap (λ xs. xs ++ codes_of top) (map-append code_of ps qs)
          ∙ append_assoc (codes_of ps) (codes_of qs) (codes_of top))
          ∙ ap codes_of (sym (w.parts φ ψ n));
      coded = λ n h. subst Held (sym (w.parts φ ψ n)) (held_binary (op_of k) φ ψ s.coded t.coded n (omega (arith, z)));
    }

-- ---- plan words

module _ {cs : List ℕ} {φ : Formula} where
  not_stands : Stands cs φ → Stands (prefix_cells not_kind cs) (Not φ)
  unfolding op_of is_pre
  not_stands = prefix_stands not_kind (unary true not_kind refl)

  next_stands : Stands cs φ → Stands (prefix_cells next_kind cs) (X φ)
  unfolding op_of is_pre
  next_stands = prefix_stands next_kind (unary true next_kind refl)

  weak_stands : Stands cs φ → Stands (prefix_cells weak_next_kind cs) (N φ)
  unfolding op_of is_pre
  weak_stands = prefix_stands weak_next_kind (unary true weak_next_kind refl)

  eventually_stands : Stands cs φ → Stands (prefix_cells eventually_kind cs) (F φ)
  unfolding op_of is_pre
  eventually_stands = prefix_stands eventually_kind (unary true eventually_kind refl)

  always_stands : Stands cs φ → Stands (prefix_cells always_kind cs) (G φ)
  unfolding op_of is_pre
  always_stands = prefix_stands always_kind (unary true always_kind refl)

module _ {cs ds : List ℕ} {φ ψ : Formula} where
  and_stands : Stands cs φ → Stands ds ψ → Stands (infix_cells and_kind cs ds) (And φ ψ)
  unfolding op_of is_op
  and_stands = infix_stands and_kind (binary true 2 and_kind refl)

  or_stands : Stands cs φ → Stands ds ψ → Stands (infix_cells or_kind cs ds) (Or φ ψ)
  unfolding op_of is_op
  or_stands = infix_stands or_kind (binary true 3 or_kind refl)

  until_stands : Stands cs φ → Stands ds ψ → Stands (infix_cells until_kind cs ds) (U φ ψ)
  unfolding op_of is_op
  until_stands = infix_stands until_kind (binary true 1 until_kind refl)

module _ {cs : List ℕ} {φ : Formula} (s : Stands cs φ) where
  soon_stands : (n : ℕ) → Stands (chain_cells or_kind next_kind n cs) (soon n φ)
  unfolding chain_cells soon
  soon_stands zero = s
  soon_stands (suc n) = or_stands s (next_stands (soon_stands n))

  hold_stands : (n : ℕ) → Stands (chain_cells and_kind weak_next_kind n cs) (hold n φ)
  unfolding chain_cells hold
  hold_stands zero = s
  hold_stands (suc n) = and_stands s (weak_stands (hold_stands n))

  delay_stands : (n : ℕ) → Stands (delay_cells n cs) (delay n φ)
  unfolding delay_cells delay
  delay_stands zero = s
  delay_stands (suc n) = weak_stands (delay_stands n)

plan_stands : (w : PlanWord) {cs ds : List ℕ} {φ ψ : Formula} → Stands cs φ → Stands ds ψ → Stands (plan_cells w cs ds) (plan_formula w φ ψ)
unfolding plan_cells
plan_stands Once s t = not_stands (eventually_stands (and_stands s (eventually_stands (and_stands (not_stands s) (eventually_stands s)))))
plan_stands Before s t = not_stands (until_stands (not_stands t) s)
plan_stands After s t = always_stands (or_stands (not_stands s) (eventually_stands t))
plan_stands (Within steps) s t = always_stands (or_stands (not_stands s) (soon_stands t steps))
plan_stands (During first last) s t = delay_stands (hold_stands s (last - first)) (first - 1)

-- ---- the tree of a text

-- the values of leaves are bytes, and only names have one
pub record Values (val : Token → ℕ) : Type 0 where
  pub small : (t : Token) → val t < index_limit
  pub constant : (t : Token) → eqb t.kind name_kind ≡ false → val t ≡ 0

module _ {val : Token → ℕ} (v : Values val) where
  abbrev pub TreeStands : Tree → Type 0
  TreeStands a = Stands (cells val a) (formula_of val a)

  -- with temporal operators and plan words or without, where the other atoms do
  table_stands : (m : Bool) (O : List Token → Tree → Type 0) → ((us : List Token) (a : Tree) → O us a → TreeStands a)
      → {l : ℕ} {us : List Token} {a : Tree} → Derives (table m O) l us a → TreeStands a
  unfolding cells formula_of
  table_stands m O others (tighter d) = table_stands m O others d
  table_stands m O others (to_left {r} t _ o d e) =
      infix_stands t.kind (binary m (suc r) t.kind o) (table_stands m O others d) (table_stands m O others e)
  table_stands m O others (to_right {r} t _ o d e) =
      infix_stands t.kind (binary m (suc r) t.kind o) (table_stands m O others d) (table_stands m O others e)
  table_stands m O others (prefixed t o d) = prefix_stands t.kind (unary m t.kind o) (table_stands m O others d)
  table_stands m O others (plain t o) = leaf_stands t.kind (val t) (nullary t.kind o) (v.small t) (v.constant t)
  table_stands m O others (grouped o c _ _ d) = table_stands m O others d
  table_stands m O others (other {us = us} {a = a} x) = others us a x

  operand_stands : {us : List Token} {a : Tree} → Derives propositional 4 us a → TreeStands a
  operand_stands d = table_stands false (λ ts a. ⊥) (λ us a x. absurd x) d

  derived_plan : {us : List Token} {a : Tree} → Plan us a → TreeStands a
  unfolding cells formula_of
  derived_plan (over_one {w = w} c b n t d k) = plan_stands w (operand_stands d) (operand_stands d)
  derived_plan (over_two {w = w} i c b n t d j e k) = plan_stands w (operand_stands d) (operand_stands e)

  -- the cells that are written stand for the formula
  pub derived_stands : (text : List ℕ) {a : Tree} → Derived text a → TreeStands a
  derived_stands text d = table_stands true Plan (λ us a x. derived_plan x) d

-- the temporal operators among cells
pub operators_standing : {cs : List ℕ} {φ : Formula} → Stands cs φ → size φ ≤ index_limit → temporals (kinds_in cs) ≡ operators φ
operators_standing {cs} {φ} s h =
    ap temporals (sym (kinds_from 0 cs) ∙ ap kinds_in (s.codes h 0) ∙ kinds_of_lem (parts_from φ 0)) ∙ temporals_from φ 0
