use Rattle.file_map.proofs.FileLemmas.{once_none}
use Rattle.file_map.proofs.files.FileMap.new.Goals as goal

pub invariant_of-result : goal.invariant_of-result
invariant_of-result c = rw c.new.ensures.items once_none
