use Rattle.std.proofs.Common.{◌≡◌, sym, ◌∙◌, false}
use Rattle.std.specs.Str.{bytes_eq}
use Rattle.std.proofs.lemmas.Bool.{not-true}
use Rattle.object_cache.specs.Shelves.{entry_in}
use Rattle.object_cache.proofs.Comparing.{apart}
use Rattle.object_cache.proofs.entry.is_of.Goals as goal

pub returns-then-ne : goal.returns-then-ne
returns-then-ne c =
    let kept = c.args.kept.now in
    let digest = c.args.digest.now in
    let differ : bytes_eq kept.digest digest ≡ false = not-true (bytes_eq kept.digest digest) (sym c.ne.ensures ∙ c.if-ne.true) in
    sym (apart c.args.words.now c.args.input.now (entry_in
    (record { kept = kept; text = c.args.cursor.now })) digest kept.digest c.requires.digest
    c.requires.good.named differ)
