use Rattle.std.proofs.Common.{string_bytes, Global}
use Rattle.option_reader.proofs.Steps.{front_words, goes_on, stops}
use Rattle.option_reader.proofs.walk.check_options.Goals as goal

pub each-preserved : goal.each-preserved
each-preserved g c =
    let table = g.T.OptionTable.table c.args.table.now in
    let reached = c.each.invariant in
    goes_on (string_bytes {Z = Global}) table c.args.words.now c.each.at reached c.index-words-at.result c.as_str.result.now
    c.each-test.true c.index-words-at.is c.as_str.ensures.value c.in-Ok.length
    (c.in-Ok.ensures.read reached.items reached.right (front_words (string_bytes {Z = Global}) table c.args.words.now c.each.at reached))

pub returns-in-Err-clause-read : goal.returns-in-Err-clause-read
returns-in-Err-clause-read g c =
    let table = g.T.OptionTable.table c.args.table.now in
    let reached = c.each.invariant in
    stops (string_bytes {Z = Global}) table c.args.words.now c.each.at reached c.index-words-at.result c.as_str.result.now
    c.each-test.true c.index-words-at.is c.as_str.ensures.value c.in-Err.behind
    (c.in-Err.ensures.read reached.items reached.right (front_words (string_bytes {Z = Global}) table c.args.words.now c.each.at reached))
