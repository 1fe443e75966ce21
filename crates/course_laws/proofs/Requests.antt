-- A request is within the limits or it isn't.
use Rattle.std.proofs.Common.{◌⊎◌, inl, inr, ℕ, ◌≤◌, Bool, true, false, List, [], ◌∷◌, nat_lt, length, refl, ◌≡◌, arith}
use Rattle.std.specs.Prelude.{All, sum_by}
use Rattle.std.specs.List.{AllByRecursion}
use Rattle.std.proofs.lemmas.Bool.{ltb-true, ltb-false}
use Rattle.std.proofs.lemmas.List.Elements.{All-from_recursion, recursion_from_All}
use Rattle.farm_types.specs.Limits.{word_max, words_bytes_max, words_max, source_max}
use Rattle.farm_types.specs.Fits.{RequestFits}
use Rattle.farm_machine.specs.Jobs.{Job, CanRequest}
use Rattle.arg_strip.specs.Words.{stripped}

at-most : (a b : ℕ) → (a ≤ b) ⊎ (¬ (a ≤ b))
at-most a b = go (nat_lt b a) refl
  where
    go : (t : Bool) → nat_lt b a ≡ t → (a ≤ b) ⊎ (¬ (a ≤ b))
    go true e = let more = ltb-true b a e in inr (λ h. omega arith)
    go false e = inl (ltb-false b a e)

all-short : (words : List (List ℕ)) → All (λ word. length word ≤ word_max) words ⊎ (¬ (All (λ word. length word ≤ word_max) words))
all-short words =
    elim (go words) [
      | inl all ↦ inl (All-from_recursion (λ (word : List ℕ). length word ≤ word_max) words all)
      | inr long ↦ inr (λ h. long (recursion_from_All (λ (word : List ℕ). length word ≤ word_max) words h))
    ]
  where
    go : (words : List (List ℕ)) → AllByRecursion (λ (word : List ℕ). length word ≤ word_max) words ⊎
        (¬ (AllByRecursion (λ (word : List ℕ). length word ≤ word_max) words))
    go [] = inl tt
    go (word ∷ words) =
        elim (at-most (length word) word_max) [
          | inl short ↦ elim (go words) [ inl all ↦ inl (short, all) | inr long ↦ inr (λ h. long h.1) ]
          | inr long ↦ inr (λ h. long h.0)
        ]

fits-or-not : (words : List (List ℕ)) (source : List ℕ) → RequestFits words source ⊎ (¬ (RequestFits words source))
fits-or-not words source =
    elim (at-most 1 (length words)) [
      | inr none ↦ inr (λ h. none h.some)
      | inl some ↦ elim (at-most (length words) words_max) [
        | inr many ↦ inr (λ h. many h.count)
        | inl count ↦ elim (all-short words) [
          | inr long ↦ inr (λ h. long h.words_fit.each)
          | inl each ↦ elim (at-most (sum_by length words) words_bytes_max) [
            | inr more ↦ inr (λ h. more h.words_fit.together)
            | inl together ↦ elim (at-most (length source) source_max) [
              | inr big ↦ inr (λ h. big h.source_fits)
              | inl fits ↦ inl record {
                some = some;
                count = count;
                words_fit = record { each = each; together = together };
                source_fits = fits;
              }
            ]
          ]
        ]
      ]
    ]

pub can-request-or-not : (j : Job) (source : List ℕ) → CanRequest j source ⊎ (¬ (CanRequest j source))
can-request-or-not j source = fits-or-not (stripped j.words) source
