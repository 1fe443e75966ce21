-- One piece after another.
use Rattle.std.proofs.Common.{◌≡◌, ◌≤◌, ℕ, List, ◌++◌, ◌∙◌, ap, append_assoc, arith}
use Rattle.edge_traits.specs.Told.{Told, Grew}
use Rattle.edge_traits.specs.Sources.{SourceView, Lost}
use Rattle.edge_traits.proofs.ToldLemmas.{Grew-join}
use Rattle.stream_print.specs.Reads.{TookIn}

pub Lost-join : {a b c : Told (List ℕ)} {x y z : List ℕ} → Lost a b x → Lost b c y → x ++ y ≡ z → Lost a c z
Lost-join {a = a} {c = c} {x = x} {y = y} first second same = record {
  known = λ k. first.known (second.known k);
  lost = λ k. first.lost (second.known k) ∙ ap (λ zs. x ++ zs) (second.lost k)
      ∙ (let e : x ++ (y ++ c.value) ≡ (x ++ y) ++ c.value = rw append_assoc in e) ∙ ap (λ zs. zs ++ c.value) same;
}

-- a call that gives this, after one that gave that
pub TookIn-join : {a b c : SourceView} {x y z : List ℕ} → TookIn a b x → Grew b.read c.read y → Lost b.left c.left y
    → b.faults ≤ c.faults → x ++ y ≡ z → TookIn a c z
TookIn-join first gave left later same =
    record { read = Grew-join first.read gave same; left = Lost-join first.left left same; later = omega arith }
