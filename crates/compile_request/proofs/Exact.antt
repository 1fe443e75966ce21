-- A step that is right is the only one.
use Rattle.std.proofs.Common.{◌≡◌, ℕ, ◌+◌, ◌-◌, List, ◌++◌, length, refl, ap, ◌∙◌, arith}
use Rattle.farm_types.specs.declared.request.Request.{Request}
use Rattle.wire_tokens.specs.declared.faults.RequestFault.{RequestFault}
use Rattle.wire_tokens.specs.Request.{BeginsRequest, RequestFaultStands, IsShortRequest}
use Rattle.wire_tokens.proofs.RequestLaws.{one_value, one_fault, spelled_or_fault}
use Rattle.compile_request.specs.declared.reader.Step.{Step}
use Rattle.compile_request.specs.declared.reader.Step.TheVariants.{More, Whole, Bad, Memory}
use Rattle.compile_request.specs.Reader.{Says, IsUnlessMemory}

pub only_whole : (text piece : List ℕ) (step : Step) → Says text piece step → (used : ℕ) (q : Request)
    → BeginsRequest (text ++ piece) used q → IsUnlessMemory step (Whole q (used - length text))
only_whole text piece More s used q b = absurd (s.no_value used q b)
only_whole text piece (Whole p n) s used q b =
    let z = one_value (text ++ piece) (length text + n) used p q s.1 b in
    let n_is : n ≡ used - length text = omega (arith, z.0) in
    ap (λ (x : Request). Whole x n) z.1 ∙ ap (λ (k : ℕ). Whole q k) n_is
only_whole text piece (Bad at fault) s used q b = absurd (spelled_or_fault (text ++ piece) used at q fault b s)
only_whole text piece Memory s used q b = tt

pub only_bad : (text piece : List ℕ) (step : Step) → Says text piece step → (at : ℕ) (fault : RequestFault)
    → RequestFaultStands (text ++ piece) at fault → IsUnlessMemory step (Bad at fault)
only_bad text piece More s at fault t = absurd (s.no_fault at fault t)
only_bad text piece (Whole p n) s at fault t = absurd (spelled_or_fault (text ++ piece) (length text + n) at p fault s.1 t)
only_bad text piece (Bad i f) s at fault t = let z = one_fault (text ++ piece) i at f fault s t in
    ap (λ (k : ℕ). Bad k f) z.0 ∙ ap (λ (x : RequestFault). Bad at x) z.1
only_bad text piece Memory s at fault t = tt

pub only_more : (text piece : List ℕ) (step : Step) → Says text piece step → IsShortRequest (text ++ piece) → IsUnlessMemory step More
only_more text piece More s h = refl
only_more text piece (Whole p n) s h = absurd (h.no_value (length text + n) p s.1)
only_more text piece (Bad i f) s h = absurd (h.no_fault i f s)
only_more text piece Memory s h = tt
