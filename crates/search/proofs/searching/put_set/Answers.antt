-- `search::searching::put_set` meets its contract, by those of `half_of`, `put_next` and `find`.
-- Assumes nothing.
use mathlib.Core.Path.{ap, ◌∙◌}
use borrow.Author.Rules.{rules}
use Rattle.search.specs.Limits.{state_limit, set_size}
use Rattle.search.specs.Slots.{with_item}
use Rattle.search.specs.Memory.{next_bytes}
use Rattle.search.proofs.SlotsLaws.{item_made}
use Rattle.search.proofs.searching.NextMade.{entries, put_next_asked, next_made}
use Rattle.search.proofs.searching.put_set.Goals as goal

pub put_next-requires : goal.put_next-requires
put_next-requires c =
    let asked = put_next_asked c.args.letters.now c.args.a c.requires.a_lt_count c.requires.own_map c.half_of-h.result c.half_of-h.ensures in
    let few = asked.2 in
    record { h_in_bounds = asked.0; h_nonzero = asked.1; h_in_bounds_2 = search rules }

pub returns : goal.returns
returns c =
    record {
      mem_after = item_made set_size state_limit c.args.mem.now (λ n. next_bytes n c.args.present.now (entries c.args.letters.now.maps.now c.args.a) c.half_of-h.result) _ c.args.m
          c.requires.m_le_state_limit c.requires.mem_len c.put_next.ensures
          ∙ ap (with_item set_size c.args.mem.now c.args.m)
          (next_made c.args.letters.now c.args.a c.requires.a_lt_count c.requires.own_map c.half_of-h.result c.half_of-h.ensures c.args.mem.now c.args.i c.args.present.now c.requires.present_value);
      value = c.find.ensures;
    }
