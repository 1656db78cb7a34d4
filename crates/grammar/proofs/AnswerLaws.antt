-- From what the functions of the cycle are told to what they answer: one lemma for each way through a function of the reader.
-- Assumes nothing.
use mathlib.Core.Path.{◌≡◌, refl, sym, subst, ap, ◌∙◌}
use mathlib.Core.Bool.{Bool, true, false, cond}
use mathlib.Core.List.{List}
use Prim.Native.Nat.{ℕ, suc, ◌+◌, ◌-◌, ◌*◌, ◌≤◌, ◌<◌, ◌%◌}
use native.Mathlib.Omega.{arith}
use borrow.Author.Tests.{eq-eqb, ne_eqb}
use lib.ListN.{length, set}
use lib.Seq.{sets}
use Rattle.syntax.specs.declared.lex.Token.{Token}
use Rattle.std.specs.Prelude.{Option, Some, None}
use Rattle.std.proofs.lemmas.Option.{none-some, same_Some}
use Rattle.grammar.specs.declared.phrase.Phrase.{Phrase}
use Rattle.syntax.specs.Kinds.{end_kind, open_kind, close_kind}
use Rattle.syntax.specs.Lex.{token_at}
use Rattle.syntax.specs.Tree.{Tree, leaf, pre, bin, size, cells}
use Rattle.syntax.specs.Cells.{cell, one_sided, two_sided}
use Rattle.grammar.specs.Parse.{Res, none, some, bind, close, Reader, parse, grow, atom}
use Rattle.grammar.specs.PlanParse.{reader, parse_formula}
use Rattle.grammar.specs.Answer.{answer, Reads, Room, cells_after}
use Rattle.grammar.proofs.ParseCases.{on_true, on_false, bind_some, bind_none}
use Rattle.syntax.proofs.LexLaws.{tok_high, tok_real}
use Rattle.syntax.proofs.TreeLaws.{stored_pre, stored_bin}
use Rattle.grammar.proofs.ReadsInside.{Laws}
use Rattle.grammar.proofs.ParseLaws.{parse_bin, parse_atom, parse_pre, parse_inside}
use Rattle.grammar.proofs.ParseLaws.{grow_stop, grow_left, grow_right, atom_leaf, atom_other, atom_group}

-- a phrase that was read
pub record Got (v : Token → ℕ) (res : Res) (n : ℕ) (p q : List ℕ) (ph : Phrase) : Type 0 where
  pub tree : Tree
  pub is : res ≡ some tree ph.next
  pub counted : ph.count ≡ n + size tree
  pub parts : q ≡ sets p n (cells v tree)

pub got : {v : Token → ℕ} (res : Res) {n : ℕ} {p q : List ℕ} {x : Option Phrase} {ph : Phrase} → Reads v res n p q x → x ≡ Some ph
    → Got v res n p q ph
got none {x = x} {ph = ph} rd e = absurd (none-some ph (sym rd.is ∙ e))
got (some a m) {n = n} {x = x} {ph = ph} rd e =
    let i = same_Some _ _ (sym rd.is ∙ e) in
    record {
      tree = a;
      is = ap (λ (y : Phrase). some a y.next) i;
      counted = ap (λ (y : Phrase). y.count) (sym i);
      parts = rd.left;
    }

pub got_none : {v : Token → ℕ} (res : Res) {n : ℕ} {p q : List ℕ} {x : Option Phrase} → Reads v res n p q x → x ≡ None → res ≡ none
got_none none rd e = refl
got_none (some a m) rd e = absurd (none-some _ (sym e ∙ rd.is))

pub reads_none : {v : Token → ℕ} (res : Res) {n : ℕ} {p q : List ℕ} → res ≡ none → Reads v res n p q None
reads_none {v} res {n} {p} {q} e = subst (λ x. Reads v x n p q None) (sym e) (record { is = refl; left = tt })

pub reads_some : {v : Token → ℕ} (res : Res) {n : ℕ} {p q : List ℕ} (a : Tree) {ph : Phrase} → res ≡ some a ph.next → ph.count ≡ n + size a
    → q ≡ sets p n (cells v a) → Reads v res n p q (Some ph)
reads_some {v} res {n} {p} {q} a {ph} e f g =
    subst (λ x. Reads v x n p q (Some ph)) (sym e)
    (record { is = ap (λ c. Some (record { next = ph.next; count = c })) f; left = g })

-- there is room further on too, with c cells before it
pub room_at : {text : List ℕ} {at n next c : ℕ} → Room text at n → next ≤ length text → c ≤ 8 * next → Room text next c
room_at r h b = record { short = r.short; inside = h; behind = b }

-- how far a phrase goes, for the numbers
pub record Span (f : ℕ → ℕ) (text : List ℕ) (at n next count : ℕ) : Type 0 where
  pub grew : n ≤ count
  pub onward : at < next
  pub wide : count + f at ≤ f next + n
  pub high : next ≤ length text

-- the same with an operator before it
pub record Joined (f : ℕ → ℕ) (text : List ℕ) (at c next count : ℕ) : Type 0 where
  pub under : c ≤ count
  pub onward : at < next
  pub behind : count + 1 ≤ f next
  pub high : next ≤ length text

module _ {f : ℕ → ℕ} {R : Reader} (L : Laws f R) where
  module _ (text : List ℕ) where
    pub span : {v : Token → ℕ} (l at : ℕ) {n : ℕ} {p q : List ℕ} {ph : Phrase} → at ≤ length text
        → Got v (parse R text l at) n p q ph → Span f text at n ph.next ph.count
    span l at h g =
        let i = parse_inside L text at h l g.tree _ g.is in
        let c = g.counted in
        record { grew = omega arith; onward = i.later; wide = omega (arith, i.low); high = i.high }

    module _ (at : ℕ) (h : at ≤ length text) (tok : Token) (it : tok ≡ token_at text at) where
      -- an operator and its operand on the right, with c cells before it
      pub joined : (p : ℕ → Bool) → p end_kind ≡ false → p tok.kind ≡ true → {v : Token → ℕ} (l : ℕ) {c : ℕ} {q q₂ : List ℕ}
          {ph : Phrase} → c ≤ f at → Got v (parse R text l tok.next) c q q₂ ph → Joined f text at c ph.next ph.count
      joined p z o l b g =
          let t = tok_real text at h tok it p z o in
          let w = L.steps at tok.next t in
          let s = span l tok.next (tok_high text at h tok it) g in
          record { under = s.grew; onward = omega (arith, s.onward, t); behind = omega (arith, s.wide, w, b); high = s.high }

    -- in a level l with operators, over level r: a phrase that may go on
    pub record Growing (v : Token → ℕ) (l r at n : ℕ) (p : List ℕ) (ph : Phrase) (q : List ℕ) : Type 0 where
      pub tree : Tree
      pub parsed : parse R text l at ≡ grow R text r tree ph.next
      pub counted : ph.count ≡ n + size tree
      pub parts : q ≡ sets p n (cells v tree)
      pub high : ph.next ≤ length text

    module _ (l r at : ℕ) (lr : l ≡ suc r) (hl : l ≤ R.grammar.top) (h : at ≤ length text) where
      hr : suc r ≤ R.grammar.top
      hr = omega (arith, lr, hl)

      opened : parse R text l at ≡ bind (parse R text r at) (λ a next. grow R text r a next)
      opened = ap (λ x. parse R text x at) lr ∙ parse_bin L text at h r hr

      pub begin : {v : Token → ℕ} {n : ℕ} {p q : List ℕ} {ph : Phrase} → Got v (parse R text r at) n p q ph → Growing v l r at n p ph q
      begin g =
          record {
            tree = g.tree;
            parsed = opened ∙ bind_some _ _ g.tree _ g.is;
            counted = g.counted;
            parts = g.parts;
            high = (parse_inside L text at h r g.tree _ g.is).high;
          }

      pub first_bad : {v : Token → ℕ} {n : ℕ} {p q : List ℕ} → parse R text r at ≡ none → Reads v (parse R text l at) n p q None
      first_bad e = reads_none (parse R text l at) (opened ∙ bind_none _ _ e)

      module _ {v : Token → ℕ} {n : ℕ} {p q : List ℕ} {ph : Phrase} (g : Growing v l r at n p ph q) (tok : Token)
          (it : tok ≡ token_at text ph.next) where
        op : {b : Bool} → R.grammar.is_op l tok.kind ≡ b → R.grammar.is_op (suc r) (token_at text ph.next).kind ≡ b
        op o = ap (λ (x : Token). R.grammar.is_op (suc r) x.kind) (sym it) ∙ ap (λ y. R.grammar.is_op y tok.kind) (sym lr) ∙ o

        -- no operator follows
        pub stopped : R.grammar.is_op l tok.kind ≡ false → Reads v (parse R text l at) n p q (Some ph)
        stopped o =
            reads_some (parse R text l at) g.tree (g.parsed ∙ grow_stop L text ph.next g.high r hr g.tree (op o))
            g.counted g.parts

        -- an operator follows, and its right operand is of the level below or of the same
        module _ (o : R.grammar.is_op l tok.kind ≡ true) (right : ℕ) (is_right : right ≡ cond (R.grammar.leftward l) r l) where
          side : {C : Type 0} → (R.grammar.leftward (suc r) ≡ true → right ≡ r → C)
              → (R.grammar.leftward (suc r) ≡ false → right ≡ suc r → C) → C
          side {C} f g = go (R.grammar.leftward (suc r)) refl (is_right ∙ ap (λ x. cond (R.grammar.leftward x) r x) lr)
            where
              go : (b : Bool) → R.grammar.leftward (suc r) ≡ b → right ≡ cond b r (suc r) → C
              go true e i = f e i
              go false e i = g e i

          operand : (k : ℕ) {res : Res} → right ≡ k → parse R text right tok.next ≡ res → parse R text k (token_at text ph.next).next ≡ res
          operand k i e = ap (λ (x : Token). parse R text k x.next) (sym it) ∙ ap (λ j. parse R text j tok.next) (sym i) ∙ e

          pub next_bad : {q₂ : List ℕ} → parse R text right tok.next ≡ none → Reads v (parse R text l at) n p q₂ None
          next_bad z =
              reads_none (parse R text l at)
              (g.parsed ∙ side
              (λ f i. grow_left L text ph.next g.high r hr g.tree (op o) f ∙ bind_none _ _ (operand r i z))
              (λ f i. grow_right L text ph.next g.high r hr g.tree (op o) f ∙ bind_none _ _ (operand (suc r) i z)))

          module _ {q₂ q₃ : List ℕ} {more : Phrase} (b : Got v (parse R text right tok.next) ph.count q q₂ more)
              (s : q₃ ≡ set q₂ more.count (cell tok.kind (two_sided (more.count - ph.count)))) where
            wrote : q₃ ≡ sets p n (cells v (bin tok g.tree b.tree))
            wrote =
                let a = g.counted in
                let d = g.parts in
                let f = b.parts in
                let w = stored_bin v tok g.tree b.tree p n in
                let x : more.count - ph.count ≡ size b.tree = omega (arith, b.counted) in
                let y : more.count ≡ n + size g.tree + size b.tree = omega (arith, b.counted, a) in
                cc

            counts : more.count + 1 ≡ n + size (bin tok g.tree b.tree)
            unfolding size
            counts = omega (arith, b.counted, g.counted)

            pub next_more : (right ≡ l → ⊥) → Growing v l r at n p (record { next = more.next; count = more.count + 1 }) q₃
            next_more f =
                record {
                  tree = bin tok g.tree b.tree;
                  parsed = g.parsed ∙ side
                      (λ f i. grow_left L text ph.next g.high r hr g.tree (op o) f ∙ bind_some _ _ b.tree _ (operand r i b.is)
                      ∙ ap (λ y. grow R text r (bin y g.tree b.tree) more.next) (sym it))
                      (λ _ i. absurd (f (i ∙ sym lr)));
                  counted = counts;
                  parts = wrote;
                  high = (parse_inside L text tok.next (tok_high text ph.next g.high tok it) right b.tree _ b.is).high;
                }

            pub next_done : right ≡ l → Reads v (parse R text l at) n p q₃ (Some (record { next = more.next; count = more.count + 1 }))
            next_done f =
                reads_some (parse R text l at) (bin tok g.tree b.tree)
                (g.parsed ∙ side
                (λ _ i. absurd (omega (arith, i, f, lr)))
                (λ f i. grow_right L text ph.next g.high r hr g.tree (op o) f ∙ bind_some _ _ b.tree _ (operand (suc r) i b.is)
                ∙ ap (λ y. some (bin y g.tree b.tree) more.next) (sym it)))
                counts wrote

    module _ (at : ℕ) (h : at ≤ length text) (tok : Token) (it : tok ≡ token_at text at) where
      to_test : (p : ℕ → Bool) {b : Bool} → p tok.kind ≡ b → p (token_at text at).kind ≡ b
      to_test p o = ap (λ (x : Token). p x.kind) (sym it) ∙ o

      pub pass : {v : Token → ℕ} {n : ℕ} {p q : List ℕ} {x : Option Phrase} → R.grammar.is_pre tok.kind ≡ false
          → Reads v (atom R text at) n p q x → Reads v (parse R text 0 at) n p q x
      pass {v} {n} {p} {q} {x} o rd = subst (λ y. Reads v y n p q x) (sym (parse_atom L text at h (to_test R.grammar.is_pre o))) rd

      module _ (o : R.grammar.is_pre tok.kind ≡ true) where
        pub pre_bad : {v : Token → ℕ} {n : ℕ} {p q : List ℕ} → parse R text 0 tok.next ≡ none → Reads v (parse R text 0 at) n p q None
        pre_bad e =
            reads_none (parse R text 0 at)
            (parse_pre L text at h (to_test R.grammar.is_pre o) ∙ bind_none _ _
            (ap (λ (x : Token). parse R text 0 x.next) (sym it) ∙ e))

        pub pre_done : {v : Token → ℕ} {n : ℕ} {p q q₂ : List ℕ} {ph : Phrase} → Got v (parse R text 0 tok.next) n p q ph
            → q₂ ≡ set q ph.count (cell tok.kind one_sided)
            → Reads v (parse R text 0 at) n p q₂ (Some (record { next = ph.next; count = ph.count + 1 }))
        unfolding size
        pre_done {v} {n = n} {p = p} {q = q} {q₂ = q₂} {ph = ph} b s =
            let a = b.counted in
            let d = b.parts in
            let w = stored_pre v tok b.tree p n in
            reads_some (parse R text 0 at) (pre tok b.tree)
            (parse_pre L text at h (to_test R.grammar.is_pre o)
            ∙ bind_some _ _ b.tree _ (ap (λ (x : Token). parse R text 0 x.next) (sym it) ∙ b.is)
            ∙ ap (λ x. some (pre x b.tree) ph.next) (sym it))
            (omega arith) (cc)

      pub leaf_done : {v : Token → ℕ} {n x : ℕ} {p q : List ℕ} → R.grammar.is_leaf tok.kind ≡ true → x ≡ v tok
          → q ≡ set p n (cell tok.kind (x % 256)) → Reads v (atom R text at) n p q (Some (record { next = tok.next; count = n + 1 }))
      unfolding cells size
      leaf_done {n = n} {p = p} o w s =
          reads_some (atom R text at) (leaf tok)
          (atom_leaf L text at h (to_test R.grammar.is_leaf o) ∙ ap (λ (x : Token). some (leaf x) x.next) (sym it)) refl
          (s ∙ ap (λ y. set p n (cell tok.kind (y % 256))) w)

      module _ (o : R.grammar.is_leaf tok.kind ≡ false) where
        -- an atom that another reader reads
        pub other_done : {v : Token → ℕ} {n : ℕ} {p q : List ℕ} {x : Option Phrase} → (tok.kind ≡ open_kind → ⊥) → Reads v (R.other text at) n p q x
            → Reads v (atom R text at) n p q x
        other_done {v} {n} {p} {q} {x} f rd =
            subst (λ y. Reads v y n p q x)
            (sym (atom_other L text at h (to_test R.grammar.is_leaf o) (λ e. f (ap (λ (x : Token). x.kind) it ∙ e)))) rd

        module _ (k : tok.kind ≡ open_kind) where
          group : atom R text at ≡ bind (parse R text R.grammar.top tok.next) (close text)
          group = atom_group L text at h (to_test R.grammar.is_leaf o) (ap (λ (x : Token). x.kind) (sym it) ∙ k)
              ∙ ap (λ (x : Token). bind (parse R text R.grammar.top x.next) (close text)) (sym it)

          pub group_bad : {v : Token → ℕ} {n : ℕ} {p q : List ℕ} → parse R text R.grammar.top tok.next ≡ none
              → Reads v (atom R text at) n p q None
          group_bad e = reads_none (atom R text at) (group ∙ bind_none _ _ e)

          module _ {v : Token → ℕ} {n : ℕ} {p q : List ℕ} {ph : Phrase} (b : Got v (parse R text R.grammar.top tok.next) n p q ph)
              (end : Token) (et : end ≡ token_at text ph.next) where
            pub close_bad : (end.kind ≡ close_kind → ⊥) → Reads v (atom R text at) n p q None
            unfolding close
            close_bad f =
                reads_none (atom R text at)
                (group ∙ bind_some _ _ b.tree _ b.is ∙ on_false _ _ _ (ne_eqb _ _ (λ y. f (ap (λ (x : Token). x.kind) et ∙ y))))

            pub close_done : end.kind ≡ close_kind → Reads v (atom R text at) n p q (Some (record { next = end.next; count = ph.count }))
            unfolding close
            close_done y =
                reads_some (atom R text at) b.tree
                (group ∙ bind_some _ _ b.tree _ b.is ∙ on_true _ _ _ (eq-eqb _ _ (ap (λ (x : Token). x.kind) (sym et) ∙ y))
                ∙ ap (λ (x : Token). some b.tree x.next) (sym et))
                b.counted b.parts

-- a loop of a level with operators: what it has read so far, from what it had where it began
pub record Loop (v : Token → ℕ) {f : ℕ → ℕ} {R : Reader} (L : Laws f R) (text : List ℕ) (l r at n : ℕ) (ph₀ : Phrase)
    (p₀ : List ℕ) (ph : Phrase) (p : List ℕ) : Type 0 where
  pub onward : at ≤ ph.next
  pub behind : ph.count ≤ f ph.next
  pub high : ph.next ≤ length text
  pub long : length p ≡ length p₀
  pub grows : (q : List ℕ) → Growing L text v l r at n q ph₀ p₀ → Growing L text v l r at n q ph p

-- a level by its number, which is not 0
pub level_is : (l : ℕ) → (l ≡ 0 → ⊥) → l ≡ suc (l - 1)
level_is l h = omega arith

pub right_most : (b : Bool) (l right : ℕ) → right ≡ cond b (l - 1) l → right ≤ l
right_most true l right e = omega arith
right_most false l right e = omega arith

-- the whole text
module _ (text : List ℕ) where
  pub formula_bad : parse (reader true) text 4 0 ≡ none → parse_formula text ≡ none
  unfolding parse_formula
  formula_bad e = bind_none _ _ e

  module _ {v : Token → ℕ} {p q : List ℕ} {ph : Phrase} (g : Got v (parse (reader true) text 4 0) 0 p q ph)
      (tok : Token) (it : tok ≡ token_at text ph.next) where
    pub formula_more : (tok.kind ≡ end_kind → ⊥) → parse_formula text ≡ none
    unfolding parse_formula
    formula_more f =
        bind_some _ _ g.tree _ g.is ∙ on_false _ _ _ (ne_eqb _ _ (λ y. f (ap (λ (x : Token). x.kind) it ∙ y)))

    pub formula_done : tok.kind ≡ end_kind → (Some ph ≡ answer (parse_formula text) 0) × (q ≡ cells_after v (parse_formula text) p)
    unfolding parse_formula
    formula_done z =
        subst (λ x. (Some ph ≡ answer x 0) × (q ≡ cells_after v x p))
        (sym (bind_some _ _ g.tree _ g.is ∙ on_true _ _ _ (eq-eqb _ _ (ap (λ (x : Token). x.kind) (sym it) ∙ z))))
        (ap (λ c. Some (record { next = ph.next; count = c })) g.counted, g.parts)
