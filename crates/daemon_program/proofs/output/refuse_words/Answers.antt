use Rattle.std.proofs.Common.{◌≡◌, ◌≢◌, ℕ, [], ◌∙◌, subst}
use Rattle.farm_types.specs.Exits.{bad_words_status}
use Rattle.daemon_program.specs.Texts.{bad_words_text}
use Rattle.daemon_program.specs.Endings.{Ends}
use Rattle.daemon_program.proofs.Telling.{none_wanted}
use Rattle.daemon_program.proofs.output.refuse_words.Goals as goal

pub returns-in-Ok : goal.returns-in-Ok
returns-in-Ok g c =
    let text : c.as_bytes.result.now ≡ bad_words_text c.args.place = c.as_bytes.ensures.value ∙ c.in-Ok.ensures.ok in
    subst (λ t. Ends t bad_words_status (g.O.Sink.shows c.args.out.now) (g.O.Sink.shows c.tell.new.out) c.tell.result) text c.tell.ensures

some_text : (place : ℕ) → bad_words_text place ≢ []
some_text place none = cc none

pub returns-in-Err : goal.returns-in-Err
returns-in-Err g c = none_wanted (bad_words_text c.args.place) bad_words_status _ _ _ (some_text c.args.place) c.want_memory.ensures
