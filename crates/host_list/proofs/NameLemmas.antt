-- Names of hosts.
use Rattle.std.proofs.Common.{◌≡◌, ℕ, ◌<◌, ◌≤◌, true, false, eqb, List, length, get_or, take, min, refl, sym, ◌∙◌, ⊎_elim, arith}
use Rattle.std.specs.Prelude.{slice_index}
use Rattle.std.specs.List.{prefix_len}
use Rattle.std.proofs.lemmas.Bool.{cases_Bool, false≢true, eq-eqb}
use Rattle.std.proofs.lemmas.Bool.Decides.{nat_tests}
use Rattle.std.proofs.lemmas.List.{get_or-take, length-take-le}
use Rattle.std.proofs.lemmas.List.Elements.{All-from_get_or}
use Rattle.std.proofs.lemmas.List.Sums.{prefix_len-le-length, prefix_len_passes}
use Rattle.farm_types.specs.Limits.{host_name_max}
use Rattle.host_list.specs.Names.{is_host_name_byte, IsHostName}
use Rattle.host_list.specs.HostWords.{name_reach, begins_with_name}

some_reach : (word : List ℕ) → begins_with_name word ≡ true → 0 < name_reach word
some_reach word h = grind (arith, nat_tests)

no_dash : (word : List ℕ) → 0 < name_reach word → eqb (slice_index word 0) 45 ≡ false
no_dash word h = ⊎_elim (λ yes. absurd (let none : name_reach word ≡ 0 = rw yes refl in omega arith)) (λ no. no)
    (cases_Bool (eqb (slice_index word 0) 45))

pub reach_is : (word : List ℕ) → 0 < name_reach word → name_reach word ≡ min host_name_max (prefix_len is_host_name_byte word)
reach_is word h = let no = no_dash word h in rw no refl

-- a name doesn't reach behind the word
pub reach_within : (word : List ℕ) → name_reach word ≤ length word
reach_within word =
    let low = prefix_len-le-length is_host_name_byte word in
    ⊎_elim (λ dash. let none : name_reach word ≡ 0 = rw dash refl in omega arith)
    (λ other. let is : name_reach word ≡ min host_name_max (prefix_len is_host_name_byte word) = rw other refl in omega arith)
    (cases_Bool (eqb (slice_index word 0) 45))

-- what a name reaches to is one
pub name_front : (word : List ℕ) → begins_with_name word ≡ true → IsHostName (take (name_reach word) word)
name_front word h =
    let some = some_reach word h in
    let is = reach_is word some in
    let low = prefix_len-le-length is_host_name_byte word in
    let n : ℕ = name_reach word in
    let len : length (take n word) ≡ n = length-take-le n word (omega arith) in
    record {
      some = omega arith;
      few = omega arith;
      each = All-from_get_or (λ c. is_host_name_byte c ≡ true) (take n word) 0
          (λ k lt. rw (get_or-take n word k 0 (omega arith)) (prefix_len_passes is_host_name_byte word k 0 (omega arith)));
      first = let there = get_or-take n word 0 0 some in let no = no_dash word some in
          λ e. false≢true (sym no ∙ eq-eqb (get_or word 0 0) 45 (sym there ∙ e));
    }
