use Rattle.std.proofs.Common.{◌∙◌, ap, append_assoc, codes}
use Rattle.std.specs.List.{flat_map}
use Rattle.sha2.specs.Sha256.{sha256}
use Rattle.object_cache.specs.Keys.{digest_of, word_text, sized}
use Rattle.object_cache.proofs.key.run_digest.Goals as goal

pub returns : goal.returns
unfolding digest_of
returns c =
    c.finalize.ensures _ (c.add_sized.ensures _ (c.update.ensures _ (c.add_words.ensures _ c.new-hasher.ensures)))
    ∙ ap sha256 (append_assoc (flat_map word_text c.args.words.now) (codes "s") (sized c.args.input.now))
