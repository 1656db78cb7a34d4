-- Which declared signals no rule uses, by the bytes of a problem's lines alone.
-- The tests of `Declarations` are meant to find exactly these; the theorem that they do is still to come.
-- Assumes nothing.
use Rattle.std.specs.Prelude.{ℕ, suc, ◌+◌, ◌<◌, ◌≡◌, length}
use mathlib.Core.List.{List, [], ◌∷◌, ◌++◌, flat_map}
use Rattle.basics.specs.Bytes.{between}
use Rattle.basics.specs.Member.{◌∈◌}
use Rattle.syntax.specs.declared.lex.Token.{Token}
use Rattle.syntax.specs.Kinds.{name_kind}
use Rattle.syntax.specs.Lex.{tokens}
use Rattle.grammar.specs.Names.{Name}
use Rattle.lines.specs.declared.problem.Kind.{Kind}
use Rattle.lines.specs.Lines.{SourceLine, ended, lines, declare_line, rule_line}

-- a declared signal: the number of its line, counted from 1, and its name
pub record Declaration : Type 0 where
  pub line : ℕ
  pub name : Name

-- a name occurs in a text where one of the text's tokens is this name
abbrev pub HasName : List ℕ → Name → Type 0
HasName text name = (t : Token) × (t ∈ tokens text 0) × (t.kind ≡ name_kind) × (between text t.from t.next ≡ name)

-- a name is used where it occurs in some rule
abbrev pub IsUsed : List SourceLine → Name → Type 0
IsUsed ls name = (text : List ℕ) × (ended (rule_line text) ∈ ls) × HasName text name

-- `UnusedFrom all at ls ds`: of the signals that the lines ls declare, the first of these being line `at`, ds are those that no rule among `all` uses,
-- in declared order
pub data UnusedFrom (all : List SourceLine) : ℕ → List SourceLine → List Declaration → Type 0 where
  none : {at : ℕ} → UnusedFrom all at [] []
  unused : {at : ℕ} {ls : List SourceLine} {ds : List Declaration} (k : Kind) (name : Name) → ¬ IsUsed all name → UnusedFrom all (suc at) ls ds
      → UnusedFrom all at (ended (declare_line k name) ∷ ls) (record { line = at; name = name } ∷ ds)
  used : {at : ℕ} {ls : List SourceLine} {ds : List Declaration} (k : Kind) (name : Name) → IsUsed all name → UnusedFrom all (suc at) ls ds
      → UnusedFrom all at (ended (declare_line k name) ∷ ls) ds
  other : {at : ℕ} {l : SourceLine} {ls : List SourceLine} {ds : List Declaration} → ((k : Kind) (name : Name) → ¬ (l ≡ ended (declare_line k name)))
      → UnusedFrom all (suc at) ls ds → UnusedFrom all at (l ∷ ls) ds

-- the unused signals of a text
abbrev pub Unused : List ℕ → List Declaration → Type 0
Unused source ds = UnusedFrom (lines source) 1 (lines source) ds

-- their names as text, each ended by byte 10
abbrev pub name_line : Declaration → List ℕ
name_line d = d.name ++ (10 ∷ [])

abbrev pub names_text : List Declaration → List ℕ
names_text ds = flat_map name_line ds

-- ---- the same by the lines of single signals

-- line n, counted from 1
abbrev pub LineAt : List SourceLine → ℕ → SourceLine → Type 0
LineAt ls n l = (before behind : List SourceLine) × (ls ≡ before ++ l ∷ behind) × (n ≡ length before + 1)

-- a declared signal that no rule of the text uses
abbrev pub IsUnused : List ℕ → Declaration → Type 0
IsUnused source d = (k : Kind) × LineAt (lines source) d.line (ended (declare_line k d.name)) × (¬ IsUsed (lines source) d.name)

-- declarations by ascending lines
abbrev pub Ascends : List Declaration → Type 0
Ascends [] = Unit {0}
Ascends (d ∷ ds) = ((e : Declaration) → e ∈ ds → d.line < e.line) × Ascends ds
