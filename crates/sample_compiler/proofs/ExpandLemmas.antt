-- How a text is preprocessed line by line.
use Rattle.std.proofs.Common.{Bool, ◌≡◌, ℕ, zero, suc, ◌+◌, ◌-◌, ◌<◌, List, [], ◌∷◌, ◌++◌, Ok, Err, refl, ap, sym, ◌∙◌, append_assoc, arith}
use Rattle.std.proofs.lemmas.List.{append-nil}
use Rattle.file_map.specs.FileMaps.{Files}
use Rattle.sample_compiler.specs.declared.defines.Define.{Define}
use Rattle.sample_compiler.specs.declared.expand.Expansion.{Expansion}
use Rattle.sample_compiler.specs.declared.stops.ExpandFault.{ExpandFault}
use Rattle.sample_compiler.specs.declared.stops.ExpandFault.TheVariants.{TooDeep}
use Rattle.sample_compiler.specs.declared.stops.ExpandStop.{ExpandStop}
use Rattle.sample_compiler.specs.declared.stops.ExpandStop.TheVariants as stops
use Rattle.sample_compiler.specs.Lines.{source_lines}
use Rattle.sample_compiler.specs.Expanding.{ExpandResult, behind_text, then_lines, Includes, expand_line, expand_lines, from_file}
use Rattle.sample_compiler.specs.Expanding.{find_file, include}
use Rattle.sample_compiler.specs.Lookups.{Stopped}

behind_none : (o : ExpandResult) → behind_text [] o ≡ o
behind_none (Ok made) = refl
behind_none (Err fault) = refl

behind_both : (a b : List ℕ) (o : ExpandResult) → behind_text a (behind_text b o) ≡ behind_text (a ++ b) o
behind_both a b (Ok made) = ap (λ t. Ok (record { defines = made.defines; text = t })) (sym (append_assoc a b made.text))
behind_both a b (Err fault) = refl

pub include_deep : (files : Files) (dirs : List (List ℕ)) (room line : ℕ) (defines : List Define) (name : List ℕ) → room ≡ 0
    → include files dirs room line defines name ≡ Err (line, TooDeep)
unfolding include
include_deep files dirs zero line defines name h = refl
include_deep files dirs (suc room) line defines name h = absurd (omega arith)

pub include_file : (files : Files) (dirs : List (List ℕ)) (room line : ℕ) (defines : List Define) (name : List ℕ) → 0 < room
    → include files dirs room line defines name ≡ from_file (expand_lines (include files dirs (room - 1)) 1) line defines name
    (find_file files dirs name)
unfolding include
include_file files dirs zero line defines name h = absurd (omega arith)
include_file files dirs (suc room) line defines name h =
    let e : room ≡ suc room - 1 = omega arith in
    ap (λ r. from_file (expand_lines (include files dirs r) 1) line defines name (find_file files dirs name)) e

-- lines were read up to this rest
pub record Behind (includes : Includes) (text before : List ℕ) (defines : List Define) (line : ℕ) (rest : List ℕ)
    (made : Expansion) : Type 0 where
  pub done : List ℕ
  pub grown : made.text ≡ before ++ done
  pub same : behind_text done (expand_lines includes line made.defines (source_lines rest))
      ≡ expand_lines includes 1 defines (source_lines text)

pub behind_begin : (includes : Includes) (text : List ℕ) (made : Expansion) → Behind includes text made.text made.defines 1 text made
behind_begin includes text made =
    record { done = []; grown = sym (append-nil made.text); same = behind_none (expand_lines includes 1 made.defines (source_lines text)) }

pub behind_more : (includes : Includes) (text before : List ℕ) (defines : List Define) (line : ℕ) (rest bytes more : List ℕ)
    (made next : Expansion) → Behind includes text before defines line rest made → source_lines rest ≡ bytes ∷ source_lines more
    → (t : List ℕ) → expand_line includes line made.defines bytes ≡ Ok (record { defines = next.defines; text = t })
    → next.text ≡ made.text ++ t → Behind includes text before defines (line + 1) more next
behind_more includes text before defines line rest bytes more made next b cut t took grew = record {
  done = b.done ++ t;
  grown = grew ∙ ap (λ x. x ++ t) b.grown ∙ append_assoc before b.done t;
  same =
      sym (behind_both b.done t (expand_lines includes (line + 1) next.defines (source_lines more)))
      ∙ ap (λ o. behind_text b.done (then_lines o (λ ds. expand_lines includes (line + 1) ds (source_lines more)))) (sym took)
      ∙ ap (λ ls. behind_text b.done (expand_lines includes line made.defines ls)) (sym cut) ∙ b.same;
}

pub behind_fault : (includes : Includes) (text before : List ℕ) (defines : List Define) (line : ℕ) (rest bytes more : List ℕ)
    (made : Expansion) (fault : ℕ × ExpandFault) → Behind includes text before defines line rest made
    → source_lines rest ≡ bytes ∷ source_lines more → expand_line includes line made.defines bytes ≡ Err fault
    → expand_lines includes 1 defines (source_lines text) ≡ Err fault
behind_fault includes text before defines line rest bytes more made fault b cut stop =
    sym b.same ∙ ap (λ ls. behind_text b.done (expand_lines includes line made.defines ls)) cut
    ∙ ap (λ o. behind_text b.done (then_lines o (λ ds. expand_lines includes (line + 1) ds (source_lines more)))) stop

pub behind_end : (includes : Includes) (text before : List ℕ) (defines : List Define) (line : ℕ) (rest : List ℕ) (made : Expansion)
    → Behind includes text before defines line rest made → rest ≡ []
    → (t : List ℕ) × (expand_lines includes 1 defines (source_lines text) ≡ Ok (record { defines = made.defines; text = t }))
    × (made.text ≡ before ++ t)
behind_end includes text before defines line rest made b none = (
  b.done,
  sym b.same ∙ ap (λ r. behind_text b.done (expand_lines includes line made.defines (source_lines r))) none
      ∙ ap (λ t. Ok (record { defines = made.defines; text = t })) (append-nil b.done),
  b.grown,
)

pub behind_stop : (whole : Bool) (includes : Includes) (text before : List ℕ) (defines : List Define) (line : ℕ)
    (rest bytes more : List ℕ) (made : Expansion) (stop : ExpandStop) → Behind includes text before defines line rest made
    → source_lines rest ≡ bytes ∷ source_lines more → Stopped whole (expand_line includes line made.defines bytes) stop
    → Stopped whole (expand_lines includes 1 defines (source_lines text)) stop
behind_stop whole includes text before defines line rest bytes more made (stops.Fault l f) b cut h =
    behind_fault includes text before defines line rest bytes more made (l, f) b cut h
behind_stop whole includes text before defines line rest bytes more made (stops.Unknown path) b cut h = h
behind_stop whole includes text before defines line rest bytes more made stops.Memory b cut h = tt
