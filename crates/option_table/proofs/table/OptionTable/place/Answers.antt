use Rattle.std.proofs.Common.{◌≡◌, ◌<◌, true, length, slice_index, IsNone, IfSome, subst}
use Rattle.std.specs.List.{list_all}
use Rattle.option_table.specs.Rows.{fits_not, place_of}
use Rattle.option_table.specs.Spans.{IsSpan}
use Rattle.option_table.proofs.Searching.{found_equal, found_longest, none_equal}
use Rattle.option_table.proofs.table.OptionTable.place.Given
use Rattle.option_table.proofs.table.OptionTable.place.Goals as goal

pub returns-in-Some-clause-place : goal.returns-in-Some-clause-place
returns-in-Some-clause-place g c =
    (found_equal c.args.self.now c.args.word.now c.in-Some.place c.span-places.ensures.table c.in-Some.ensures).0

longest : (g : Given.Over) (c : goal.After-longest_place g) → (c.longest_place.result ≡ place_of c.args.self.now c.args.word.now)
    × IfSome c.longest_place.result (λ at. at < length c.args.self.now)
    × (IsNone c.longest_place.result → list_all (fits_not c.args.word.now) c.args.self.now ≡ true)
longest g c =
    let rows = c.args.self.now in
    let word = c.args.word.now in
    let span : IsSpan rows (slice_index word 1) c.span-places.result.now =
    subst (λ letter. IsSpan rows letter c.span-places.result.now) c.second_byte.ensures c.span-places.ensures.span in
    found_longest rows word c.span-places.result.now c.longest_place.result c.span-places.ensures.table span
    (none_equal rows word c.span-places.result.now span c.in-None.ensures) c.longest_place.ensures

pub returns-in-None-clause-place : goal.returns-in-None-clause-place
returns-in-None-clause-place g c = (longest g c).0

pub returns-in-None-clause-none : goal.returns-in-None-clause-none
returns-in-None-clause-none g c = (longest g c).2
