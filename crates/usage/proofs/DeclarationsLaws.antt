-- The declarations line by line, as code walks along a text, and how much room their names need. Assumes nothing.
use Prim.Native.Nat.{ℕ, suc, ◌+◌, ◌-◌, ◌≤◌, ◌<◌}
use native.Mathlib.Nat.{le_refl}
use native.Mathlib.Numerals.{add-one}
use native.Mathlib.Omega.{arith}
use mathlib.Core.Path.{◌≡◌, refl, sym, ap, subst, ◌∙◌}
use mathlib.Core.Bool.{Bool, true, false, not, cond}
use mathlib.Core.List.Memᴰ
use mathlib.Core.List.{List, [], ◌∷◌, ◌++◌}
use borrow.Author.Tests.{ltb-true, ltb-false}
use lib.Dec.{ltb}
use lib.ListN.{length, take, drop, length-drop, length-append}
use lib.Seq.{length-take-le, take-length}
use Rattle.basics.specs.Bytes.{not_tab, not_line_end, run, past}
use Rattle.basics.specs.Member.{◌∈◌}
use Rattle.basics.specs.Pieces.{piece, behind, field_at}
use Rattle.basics.proofs.BytesLaws.{past_in}
use Rattle.basics.proofs.PiecesLaws.{piece_is, behind_byte, behind_end}
use Rattle.grammar.specs.Names.{Name, index_of}
use Rattle.lines.specs.declared.problem.Word.{Word}
use Rattle.lines.specs.declared.problem.Word.TheVariants.{Declare, Rule, Order as OrderWord, Unknown}
use Rattle.lines.specs.Lines.{SourceLine, ended, unended, lines, word_of}
use Rattle.lines.proofs.LinesLaws.{lines_none, lines_ended, lines_unended}
use Rattle.usage.specs.Used.{Declaration}
use Rattle.usage.specs.Declarations.{bytes_in, by_word, declarations, is_unused, unused_among, unused_from, unused_by, declares_unused}

-- ---- a text from place `at` on: its first line, and what stands behind it

module _ (source : List ℕ) (at : ℕ) (h : at < length source) where
  abbrev here : List ℕ
  here = drop at source

  lines_first : (l : SourceLine) × (lines here ≡ l ∷ lines (behind not_line_end here)) × (bytes_in l ≡ piece not_line_end here)
  lines_first = go (ltb end (length source)) refl
    where
      end : ℕ
      end = past not_line_end source at

      go : (b : Bool) → ltb end (length source) ≡ b
          → (l : SourceLine) × (lines here ≡ l ∷ lines (behind not_line_end here)) × (bytes_in l ≡ piece not_line_end here)
      go true e = (
        ended (take (end - at) here),
        lines_ended source at end refl (omega arith) (ltb-true _ _ e) ∙ ap (λ s. ended (take (end - at) here) ∷ lines s) (behind_byte not_line_end source at),
        piece_is not_line_end source at,
      )
      go false e =
          let past_end : length source ≤ end = ltb-false _ _ e in
          let inside = past_in not_line_end source at (omega arith) in
          let is_end : end ≡ length source = omega (arith, past_end, inside) in
          let none : [] ≡ lines (behind not_line_end here) = sym (lines_none source end past_end) ∙ ap lines (behind_end not_line_end source at past_end) in (
            unended here,
            lines_unended source at end refl h is_end ∙ ap (λ ls. unended here ∷ ls) none,
            sym (take-length here) ∙ ap (λ n. take n here) (length-drop at source ∙ ap (λ n. n - at) (sym is_end)) ∙ piece_is not_line_end source at,
          )

  abbrev named : List ℕ
  named = field_at 1 (piece not_line_end here) ++ (10 ∷ [])

  -- the line's second field and one byte more are no longer than what is passed over
  passed : (length named ≤ run not_line_end here + 1) × (length named ≤ length here)
  unfolding piece behind past
  passed =
      let r = run not_line_end here in
      let l = take r here in
      let t = run not_tab l in
      let rest = drop (t + 1) l in
      let whole : r ≤ length here = omega (arith, past_in not_line_end source at (omega arith), length-drop at source) in
      let short : run not_tab rest ≤ length rest = omega (arith, past_in not_tab rest 0 (omega arith)) in
      let shown = length-append (take (run not_tab rest) rest) (10 ∷ []) in
      let field = length-take-le (run not_tab rest) rest short in
      let line = length-take-le r here whole in (
        omega (arith, shown, field, short, length-drop (t + 1) l, line),
        omega (arith, shown, field, short, length-drop (t + 1) l, line, whole, length-drop at source),
      )

  pub name_fits : at + length named ≤ length source
  name_fits = omega (arith, passed, length-drop at source)

  module _ (next : ℕ) (inside : next ≤ length source) (e : drop next source ≡ behind not_line_end here) where
    pub name_room : at + length named ≤ next
    unfolding behind
    name_room =
        let left : length source - next ≡ length here - (run not_line_end here + 1) =
        sym (length-drop next source) ∙ ap length e ∙ length-drop (run not_line_end here + 1) here in
        omega (arith, passed, length-drop at source, left)

    pub onward : at < next
    onward = omega (arith, name_room, length-append (field_at 1 (piece not_line_end here)) (10 ∷ []))

-- ---- the declarations

declared_line : (line : ℕ) (ls : List SourceLine) {d : Declaration} → d ∈ declarations line ls → line ≤ d.line
unfolding declarations
declared_line line [] m = absurd (Memᴰ.not-nil m)
declared_line line (l ∷ ls) {d} m = go (word_of (field_at 0 (bytes_in l))) m (λ n. declared_line (suc line) ls n)
  where
    go : (w : Word) → d ∈ by_word w (record { line = line; name = field_at 1 (bytes_in l) }) (declarations (suc line) ls)
        → (d ∈ declarations (suc line) ls → suc line ≤ d.line) → line ≤ d.line
    go (Declare k) (Memᴰ.head i) ih = subst (λ e. line ≤ e.line) (sym i) (le_refl line)
    go (Declare k) (Memᴰ.tail n) ih = omega (arith, ih n)
    go Rule n ih = omega (arith, ih n)
    go OrderWord n ih = omega (arith, ih n)
    go Unknown n ih = omega (arith, ih n)

-- tests that agree leave the same ones
pub unused_same : (used other : ℕ → Bool) (names : List Name) → ((b : ℕ) → used b ≡ other b) → (ds : List Declaration)
    → unused_among used names ds ≡ unused_among other names ds
unfolding unused_among
unused_same used other names e [] = refl
unused_same used other names e (d ∷ ds) =
    ap (λ b. cond (not b) (d ∷ unused_among used names ds) (unused_among used names ds)) (e (index_of d.name names))
    ∙ ap (λ es. cond (not (other (index_of d.name names))) (d ∷ es) es) (unused_same used other names e ds)

-- ---- those whose signal is not in use

module _ (used : ℕ → Bool) (names : List Name) where
  by_word_lem : (w : Word) (d : Declaration) (ds : List Declaration)
      → unused_among used names (by_word w d ds) ≡ cond (unused_by used names w d.name) (d ∷ unused_among used names ds) (unused_among used names ds)
  unfolding unused_among
  by_word_lem (Declare k) d ds = refl
  by_word_lem Rule d ds = refl
  by_word_lem OrderWord d ds = refl
  by_word_lem Unknown d ds = refl

  -- from place `at` on, which is in line `line`: the first line's, and those from the place behind it on
  module _ (source : List ℕ) (at next line : ℕ) (h : at < length source) (e : drop next source ≡ behind not_line_end (drop at source)) where
    abbrev bytes : List ℕ
    bytes = piece not_line_end (drop at source)

    abbrev pub first : Declaration
    first = record { line = line; name = field_at 1 bytes }

    abbrev pub rest : List Declaration
    rest = unused_from used names (line + 1) (lines (drop next source))

    first_declared : declarations line (lines (drop at source))
        ≡ by_word (word_of (field_at 0 bytes)) first (declarations (line + 1) (lines (drop next source)))
    unfolding declarations
    first_declared = let (l, split, is) = lines_first source at h in rw (split, is, ← e, add-one line) refl

    pub unused_step : unused_from used names line (lines (drop at source)) ≡ cond (declares_unused used names bytes) (first ∷ rest) rest
    unfolding declares_unused
    unused_step = ap (unused_among used names) first_declared ∙ by_word_lem (word_of (field_at 0 bytes)) first (declarations (line + 1) (lines (drop next source)))

    pub unused_here : declares_unused used names bytes ≡ true → unused_from used names line (lines (drop at source)) ≡ first ∷ rest
    unused_here t = unused_step ∙ ap (λ b. cond b (first ∷ rest) rest) t

    pub unused_next : declares_unused used names bytes ≡ false → unused_from used names line (lines (drop at source)) ≡ rest
    unused_next f = unused_step ∙ ap (λ b. cond b (first ∷ rest) rest) f

  pub unused_end : (source : List ℕ) (at line : ℕ) → length source ≤ at → unused_from used names line (lines (drop at source)) ≡ []
  unfolding declarations unused_among
  unused_end source at line h = rw (lines_none source at h)

  -- their lines are not before the first
  pub unused_line : (line : ℕ) (ls : List SourceLine) {d : Declaration} → d ∈ unused_from used names line ls → line ≤ d.line
  unfolding unused_among
  unused_line line ls m = declared_line line ls (among (declarations line ls) m)
    where
      among : (ds : List Declaration) {d : Declaration} → d ∈ unused_among used names ds → d ∈ ds
      among [] m = m
      among (e ∷ ds) {d} m = go (is_unused used names e.name) m (λ n. among ds n)
        where
          go : (b : Bool) → d ∈ cond b (e ∷ unused_among used names ds) (unused_among used names ds) → (d ∈ unused_among used names ds → d ∈ ds) → d ∈ e ∷ ds
          go true (Memᴰ.head i) ih = Memᴰ.head i
          go true (Memᴰ.tail n) ih = Memᴰ.tail (ih n)
          go false n ih = Memᴰ.tail (ih n)
