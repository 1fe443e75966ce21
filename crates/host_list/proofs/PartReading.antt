-- One reading of what stands behind a name.
use Rattle.std.proofs.Common.{◌≡◌, ℕ, suc, ◌+◌, ◌<◌, Bool, true, false, not, cond, List, [], ◌∷◌, ◌++◌, length, get_or, Option, Some}
use Rattle.std.proofs.Common.{None, Result, Ok, Err, refl, ap, sym, subst, ◌∙◌, ⊎_elim, arith}
use Rattle.std.specs.Prelude.{◌==◌, MatchBool, IsSome, ◌⊎◌}
use Rattle.std.specs.Char.{digit_value}
use Rattle.std.specs.List.{AllPass}
use Rattle.std.specs.Str.Parse.{AllDigits}
use Rattle.std.proofs.lemmas.Bool.{false≢true}
use Rattle.std.proofs.lemmas.Bool.Decides.{nat_tests}
use Rattle.std.proofs.lemmas.List.{append_assoc, append-nil, length-append}
use Rattle.std.proofs.lemmas.List.Elements.{All-head, All-tail, All-from_get_or}
use Rattle.farm_types.specs.Limits.{port_max, slots_max}
use Rattle.host_list.specs.declared.fault.HostFault.{HostFault}
use Rattle.host_list.specs.declared.fault.HostFault.TheVariants.{BadPort, BadLimit}
use Rattle.host_list.specs.Names.{IsPort, IsLimit}
use Rattle.host_list.specs.HostWords.{SpellsParts, SpellsPort, SpellsLimit, PartFault, WrongPart, EndsPart, is_separator}
use Rattle.farm_types.specs.Decimals.{IsDecimal, decimal_of}
use Rattle.farm_types.proofs.DecimalLemmas.{digit_at, decimal_some, decimal_none}

-- ---- tests

-- a choice by a test
pub chosen : {A : Type 0} (b : Bool) (P Q : Type 0) (x y r : A) → MatchBool b P Q → (b ≡ true → P → x ≡ r) → (Q → y ≡ r) → cond b x y ≡ r
chosen true P Q x y r h f g = f refl h
chosen false P Q x y r h f g = g h

-- ---- numbers

-- the number from 1 to the greatest that the digits are
unfoldable pub number_at : ℕ → ℕ → List ℕ → Option ℕ
number_at most greatest digits = decimal_of most 1 greatest digits

pub number_found : (most greatest : ℕ) (digits : List ℕ) (n : ℕ) → IsDecimal most 1 greatest digits n
    → number_at most greatest digits ≡ Some n
unfolding number_at
number_found most greatest digits n h = sym (decimal_some most 1 greatest digits n h)

pub number_none : (most greatest : ℕ) (digits : List ℕ) → ((n : ℕ) → IsDecimal most 1 greatest digits n → ⊥)
    → number_at most greatest digits ≡ None
unfolding number_at
number_none most greatest digits wrong = sym (decimal_none most 1 greatest digits wrong)

-- ---- parts

abbrev plain : ℕ → Bool
plain c = not (is_separator c)

-- what stands before the first separator, and from there on each separator with what stands behind it up to the next
abbrev pub cut : List ℕ → List ℕ × List (ℕ × List ℕ)
cut [] = ([], [])
cut (c ∷ cs) = cond (is_separator c) ([], (c, (cut cs).0) ∷ (cut cs).1) (c ∷ (cut cs).0, (cut cs).1)

abbrev pub Verdict : Type 0
Verdict = Result (Option ℕ × Option ℕ) (ℕ × HostFault)

-- a part where none was, by its number
abbrev pub add_part : Option ℕ → Option ℕ → Verdict → (ℕ → Verdict) → Verdict
add_part None (Some n) wrong next = next n
add_part None None wrong next = wrong
add_part (Some old) new wrong next = wrong

-- the parts, up to the first that can't stand there
abbrev pub check : Option ℕ → Option ℕ → ℕ → List (ℕ × List ℕ) → Verdict
check port limit at [] = Ok (port, limit)
check port limit at (part ∷ parts) =
    cond (part.0 == 58)
    (add_part port (number_at 5 port_max part.1) (Err (at + 1, BadPort)) (λ n. check (Some n) limit (at + 1 + length part.1) parts))
    (add_part limit (number_at 3 slots_max part.1) (Err (at + 1, BadLimit)) (λ n. check port (Some n) (at + 1 + length part.1) parts))

cut_plain : (ds rest : List ℕ) → AllPass plain ds → EndsPart rest → cut (ds ++ rest) ≡ (ds, (cut rest).1)
cut_plain [] [] h ends = refl
cut_plain [] (c ∷ cs) h ends = rw ends refl
cut_plain (d ∷ ds) rest h ends =
    let here : is_separator d ≡ false = let passes = All-head (λ c. plain c ≡ true) d ds h in grind (arith, nat_tests) in
    let later = cut_plain ds rest (All-tail (λ c. plain c ≡ true) d ds h) ends in
    rw here (ap (λ (t : List ℕ × List (ℕ × List ℕ)). (d ∷ t.0, t.1)) later)

cut_part : (separator : ℕ) (ds rest : List ℕ) → is_separator separator ≡ true → AllPass plain ds → EndsPart rest
    → (cut (separator ∷ (ds ++ rest))).1 ≡ (separator, ds) ∷ (cut rest).1
cut_part separator ds rest is h ends =
    let later = cut_plain ds rest h ends in
    rw is (ap (λ (t : List ℕ × List (ℕ × List ℕ)). (separator, t.0) ∷ t.1) later)

plain_digit : (c : ℕ) → digit_value c < 10 → plain c ≡ true
plain_digit c h = grind (arith, nat_tests)

plain_digits : (cs : List ℕ) → AllDigits 10 cs → AllPass plain cs
plain_digits cs h = All-from_get_or (λ c. plain c ≡ true) cs 0 (λ k lt. plain_digit (get_or cs k 0) (digit_at cs k lt h))

port_step : (limit : Option ℕ) (at port : ℕ) (digits : List ℕ) (more : List (ℕ × List ℕ)) → IsPort digits port
    → check None limit at ((58, digits) ∷ more) ≡ check (Some port) limit (at + 1 + length digits) more
port_step limit at port digits more h = let found = number_found 5 port_max digits port h in rw found refl

limit_step : (port : Option ℕ) (at limit : ℕ) (digits : List ℕ) (more : List (ℕ × List ℕ)) → IsLimit digits limit
    → check port None at ((47, digits) ∷ more) ≡ check port (Some limit) (at + 1 + length digits) more
limit_step port at limit digits more h = let found = number_found 3 slots_max digits limit h in rw found refl

port_then : (limit : Option ℕ) (at port : ℕ) (part more : List ℕ) → SpellsPort part port → EndsPart more
    → check None limit at (cut (part ++ more)).1 ≡ check (Some port) limit (at + length part) (cut more).1
port_then limit at port part more h ends =
    let digits = h.0 in
    let pieces = cut_part 58 digits more refl (plain_digits digits h.1.each) ends in
    let place : at + 1 + length digits ≡ at + suc (length digits) = omega arith in
    subst (λ p. check None limit at (cut (p ++ more)).1 ≡ check (Some port) limit (at + length p) (cut more).1) (sym h.2)
    (ap (check None limit at) pieces ∙ port_step limit at port digits (cut more).1 h.1
    ∙ ap (λ a. check (Some port) limit a (cut more).1) place)

limit_then : (port : Option ℕ) (at limit : ℕ) (part more : List ℕ) → SpellsLimit part limit → EndsPart more
    → check port None at (cut (part ++ more)).1 ≡ check port (Some limit) (at + length part) (cut more).1
limit_then port at limit part more h ends =
    let digits = h.0 in
    let pieces = cut_part 47 digits more refl (plain_digits digits h.1.each) ends in
    let place : at + 1 + length digits ≡ at + suc (length digits) = omega arith in
    subst (λ p. check port None at (cut (p ++ more)).1 ≡ check port (Some limit) (at + length p) (cut more).1) (sym h.2)
    (ap (check port None at) pieces ∙ limit_step port at limit digits (cut more).1 h.1
    ∙ ap (λ a. check port (Some limit) a (cut more).1) place)

port_ends : (part more : List ℕ) (port : ℕ) → SpellsPort part port → EndsPart (part ++ more)
port_ends part more port h = subst (λ p. EndsPart (p ++ more)) (sym h.2) refl

limit_ends : (part more : List ℕ) (limit : ℕ) → SpellsLimit part limit → EndsPart (part ++ more)
limit_ends part more limit h = subst (λ p. EndsPart (p ++ more)) (sym h.2) refl

-- one part and then another
two_parts : (at a b : ℕ) (first second more : List ℕ) (start mid end : ℕ → List (ℕ × List ℕ) → Verdict)
    → start at (cut (first ++ (second ++ more))).1 ≡ mid (at + length first) (cut (second ++ more)).1
    → mid (at + length first) (cut (second ++ more)).1 ≡ end (at + length first + length second) (cut more).1
    → start at (cut ((first ++ second) ++ more)).1 ≡ end (at + length (first ++ second)) (cut more).1
two_parts at a b first second more start mid end one other =
    let place : at + length first + length second ≡ at + length (first ++ second) = omega (arith, length-append first second) in
    ap (λ t. start at (cut t).1) (append_assoc first second more) ∙ one ∙ other ∙ ap (λ a. end a (cut more).1) place

check_front : (port limit : Option ℕ) (at : ℕ) (parts more : List ℕ) → SpellsParts port limit parts → EndsPart more
    → check None None at (cut (parts ++ more)).1 ≡ check port limit (at + length parts) (cut more).1
check_front None None at parts more h ends =
    let place : at ≡ at + 0 = omega arith in
    subst (λ p. check None None at (cut (p ++ more)).1 ≡ check None None (at + length p) (cut more).1) (sym h)
    (ap (λ a. check None None a (cut more).1) place)
check_front (Some port) None at parts more h ends = port_then None at port parts more h ends
check_front None (Some limit) at parts more h ends = limit_then None at limit parts more h ends
check_front (Some port) (Some limit) at parts more h ends =
    let first = h.0 in
    let second = h.1 in
    subst (λ p. check None None at (cut (p ++ more)).1 ≡ check (Some port) (Some limit) (at + length p) (cut more).1) (sym h.2)
    (⊎_elim
    (λ pl. two_parts at 0 0 first second more (check None None) (check (Some port) None) (check (Some port) (Some limit))
    (port_then None at port first (second ++ more) pl.0 (limit_ends second more limit pl.1))
    (limit_then (Some port) (at + length first) limit second more pl.1 ends))
    (λ lp. two_parts at 0 0 first second more (check None None) (check None (Some limit)) (check (Some port) (Some limit))
    (limit_then None at limit first (second ++ more) lp.0 (port_ends second more port lp.1))
    (port_then (Some limit) (at + length first) port second more lp.1 ends))
    h.3)

-- what stands behind a name is right
pub parts_right : (port limit : Option ℕ) (at : ℕ) (parts : List ℕ) → SpellsParts port limit parts
    → check None None at (cut parts).1 ≡ Ok (port, limit)
parts_right port limit at parts h = ap (λ t. check None None at (cut t).1) (sym (append-nil parts))
    ∙ check_front port limit at parts [] h tt

wrong_port : (port limit : Option ℕ) (at : ℕ) (number : List ℕ) (more : List (ℕ × List ℕ))
    → IsSome port ⊎ ((n : ℕ) → IsPort number n → ⊥) → check port limit at ((58, number) ∷ more) ≡ Err (at + 1, BadPort)
wrong_port (Some old) limit at number more h = refl
wrong_port None limit at number more h =
    ⊎_elim (λ some. absurd (false≢true some)) (λ none. let no = number_none 5 port_max number none in rw no refl) h

wrong_limit : (port limit : Option ℕ) (at : ℕ) (number : List ℕ) (more : List (ℕ × List ℕ))
    → IsSome limit ⊎ ((n : ℕ) → IsLimit number n → ⊥) → check port limit at ((47, number) ∷ more) ≡ Err (at + 1, BadLimit)
wrong_limit port (Some old) at number more h = refl
wrong_limit port None at number more h =
    ⊎_elim (λ some. absurd (false≢true some)) (λ none. let no = number_none 3 slots_max number none in rw no refl) h

check_wrong : (separator : ℕ) (port limit : Option ℕ) (at : ℕ) (number : List ℕ) (fault : HostFault) (more : List (ℕ × List ℕ))
    → WrongPart separator port limit number fault
    → (is_separator separator ≡ true) × (check port limit at ((separator, number) ∷ more) ≡ Err (at + 1, fault))
check_wrong separator port limit at number fault more h =
    ⊎_elim
    (λ p. (rw p.0 refl, rw (p.0, p.2) (wrong_port port limit at number more p.1)))
    (λ l. (rw l.0 refl, rw (l.0, l.2) (wrong_limit port limit at number more l.1)))
    h

-- what stands behind a name is wrong
pub parts_wrong : (from at : ℕ) (behind : List ℕ) (fault : HostFault) → PartFault from behind at fault
    → check None None from (cut behind).1 ≡ Err (at, fault)
parts_wrong from at behind fault h =
    let w = check_wrong h.separator h.port h.limit (from + length h.parts) h.number fault (cut h.rest).1 h.wrong in
    let pieces = cut_part h.separator h.number h.rest w.0 h.plain h.ends in
    ap (λ t. check None None from (cut t).1) h.split
    ∙ check_front h.port h.limit from h.parts (h.separator ∷ (h.number ++ h.rest)) h.right w.0
    ∙ ap (check h.port h.limit (from + length h.parts)) pieces
    ∙ w.1
    ∙ ap (λ a. Err (a, fault)) (sym h.place)
