-- What reading keeps within the limits. Assumes nothing.
use Rattle.std.specs.Prelude.{Option, Some, None}
use Prim.Native.Nat.{ℕ, ◌+◌, ◌≤◌, ◌<◌}
use native.Mathlib.Omega.{arith}
use mathlib.Core.Path.{◌≡◌, refl, sym, ap, subst, ◌∙◌}
use mathlib.Core.Logic.{◌⊎◌, inl, inr}
use mathlib.Core.List.{List, []}
use lib.ListN.{length, replicate, length-set, get_or-replicate}
use Rattle.basics.specs.Member.{◌∈◌}
use Rattle.basics.proofs.MemberLaws.{index_of_lem, in_set}
use Rattle.grammar.specs.Names.{Name, bits, index_of}
use Rattle.formula.specs.declared.formula.Op.TheVariants as op
use Rattle.lines.specs.declared.problem.Kind.{Kind}
use Rattle.lines.specs.declared.problem.Kind.TheVariants.{Output, Observed, Hidden}
use Rattle.basics.specs.Limits.{operator_limit}
use Rattle.formula.specs.Limits.{part_limit}
use Rattle.formula.specs.Formula.{Formula, size, operators}
use Rattle.formula.specs.Parts.{parts_from, parts_of}
use Rattle.lines.specs.Limits.{name_limit}
use Rattle.lines.specs.Lines.{SourceLine}
use Rattle.rules.specs.Problem.{joined, joined_lines, size_in, operators_in, Draft, part_count, operator_count, Problem, problem_parts}
use Rattle.rules.specs.Problem.{accepted, blank, read_problem}
use Rattle.lines.specs.Effect.{Signals, count, first_bit, with_signal}
use Rattle.rules.specs.Within.{Few, Within}
use Rattle.rules.specs.Within.{Named}
use Rattle.rules.specs.Denotes.{IsDeclared, Reads, declared, stated, ordered, Make, done, next}
use Rattle.formula.proofs.CodesLaws.{Held, Coded, held_binary}
use Rattle.lines.proofs.TreeCodes.{derived_stands}
use Rattle.lines.proofs.LinesLaws.{name_short}
use Rattle.lines.proofs.DeclaredNames.{index_new, leaf_values}
use Rattle.rules.proofs.JoinedFormulas.{joined_more, joined_some}
use Rattle.rules.proofs.LineTests.{names_more}
use Rattle.rules.proofs.DenotesLaws.{read_denotes}

-- ---- signals

module _ (g : Signals) (named : Named g) where
  named_more : (k : Kind) (name : Name) → length name ≤ name_limit → Named (with_signal k name g)
  named_more k name h =
      record {
        all = ap length (names_more k name g) ∙ length-set g.names (first_bit k + count k g) name ∙ named.all;
        short = λ x m. short x (in_set g.names (first_bit k + count k g) (subst (λ l. x ∈ l) (names_more k name g) m));
      }
    where
      short : (x : Name) → (x ≡ name) ⊎ (x ∈ g.names) → length x ≤ name_limit
      short x (inl e) = rw e h
      short x (inr m) = named.short x m

  -- a longer name is declared nowhere
  pub long_unknown : (name : Name) → name_limit < length name → ¬ IsDeclared g name
  long_unknown name h m = omega (arith, named.short name m, h)

  -- a signal that is declared has the next bit of its kind
  pub next_bit_lem : (k : Kind) (name : Name) → ¬ IsDeclared g name → Few (with_signal k name g)
      → index_of name (with_signal k name g).names ≡ first_bit k + count k g
  next_bit_lem k name new few =
      ap (index_of name) (names_more k name g) ∙ index_new name g.names (first_bit k + count k g) (below k few) new
    where
      below : (j : Kind) → Few (with_signal j name g) → first_bit j + count j g < length g.names
      below Output w = omega (arith, w.outputs, named.all)
      below Observed w = omega (arith, w.observed, named.all)
      below Hidden w = omega (arith, w.hidden, named.all)

-- no signal has a name that is too long, at first ..
pub named_blank : Named blank.signals
named_blank = record { all = refl; short = λ name m. empty name m }
  where
    empty : (name : Name) → name ∈ replicate bits [] → length name ≤ name_limit
    empty name m = let (i, h, e) = index_of_lem [] m in subst (λ x. length x ≤ name_limit) (sym (get_or-replicate bits i [] [] h) ∙ e) (omega arith)

-- .. and after each line
pub named_reads : {d d' : Draft} {l : List ℕ} → Named d.signals → Reads d l d' → Named d'.signals
named_reads {d} n (declared k name named new few) = named_more d.signals n k name (name_short name named)
named_reads n (stated text a is derives known fits) = n
named_reads n (ordered o first) = n

-- ---- formulas

-- the formulas so far have parts that numbers hold
unfoldable CodedIn : Option Formula → Type 0
CodedIn None = Unit {0}
CodedIn (Some φ) = Coded φ

coded_joined : (f : Option Formula) (φ : Formula) → CodedIn f → Coded φ → CodedIn (Some (joined f φ))
unfolding CodedIn parts_from size
coded_joined None φ c d = d
coded_joined (Some ψ) φ c d = λ n h. held_binary op.And ψ φ c d n h

record Small (d : Draft) : Type 0 where
  few : Few d.signals
  named : Named d.signals
  coded : CodedIn (joined_lines d.lines)
  parts : part_count d ≤ part_limit
  operators : operator_count d ≤ operator_limit

reads_small : {d d' : Draft} {l : List ℕ} → Small d → Reads d l d' → Small d'
reads_small {d} s (declared k name named new few) =
    record {
      few = few;
      named = named_reads {d = d} s.named (declared k name named new few);
      coded = s.coded;
      parts = s.parts;
      operators = s.operators;
    }
reads_small {d} s (stated text a is derives known fits) =
    record {
      few = s.few;
      named = s.named;
      coded =
          subst CodedIn (sym (joined_more d.lines _))
          (coded_joined (joined_lines d.lines) _ s.coded
          (derived_stands (leaf_values d.signals.names _ s.named.all) _ derives).coded);
      parts = fits.0;
      operators = fits.1;
    }
reads_small s (ordered o first) =
    record { few = s.few; named = s.named; coded = s.coded; parts = s.parts; operators = s.operators }

-- ---- a whole problem

make_within : {d : Draft} {ls : List SourceLine} {p : Problem} → Small d → Make d ls p → Within p × Held (problem_parts p)
unfolding CodedIn parts_of
make_within s (done {d = d} some_line) =
    let (φ, e) = joined_some d.lines some_line in
    let small : size φ ≤ part_limit = subst (λ f. size_in f ≤ part_limit) e s.parts in
    let few : operators φ ≤ operator_limit = subst (λ f. operators_in f ≤ operator_limit) e s.operators in
    let held : Held (parts_of φ) = subst CodedIn e s.coded 0 (omega arith) in
    (record { few = s.few; named = s.named; parts = rw e small; operators = rw e few }, rw e held)
make_within s (next d' r m) = make_within (reads_small s r) m

blank_small : Small blank
unfolding CodedIn
blank_small =
    record {
      few = record { outputs = omega arith; observed = omega arith; hidden = omega arith; total = omega arith };
      named = named_blank;
      coded = tt;
      parts = omega arith;
      operators = omega arith;
    }

module _ (source : List ℕ) (p : Problem) (e : read_problem source ≡ accepted p) where
  -- a problem that is read is within the limits
  pub read_within : Within p
  read_within = (make_within blank_small (read_denotes source p e).make).0

  -- and numbers hold its parts
  pub read_held : Held (problem_parts p)
  read_held = (make_within blank_small (read_denotes source p e).make).1
