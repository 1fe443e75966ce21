-- A file that is being written, piece by piece.
use Rattle.std.proofs.Common.{◌≡◌, ℕ, List, [], ◌∷◌, ◌++◌, length, take, drop, refl, ◌∙◌, sym, ap, subst, inl, inr, append_assoc}
use Rattle.std.proofs.Common.{append-nil, arith}
use Rattle.std.proofs.lemmas.List.{take-append-drop}
use Rattle.std.specs.Prelude.{IsTrue, Result, Ok, Err, OnErr}
use Rattle.std.specs.FinMap.{insert, remove}
use Rattle.edge_traits.specs.declared.faults.EdgeFault.{EdgeFault}
use Rattle.edge_traits.specs.Causes.{Still}
use Rattle.edge_traits.specs.Told.{Told, Became}
use Rattle.file_map.specs.FileMaps.{Files}
use Rattle.object_delivery.specs.FileViews.{FilesView, Appends, appended}
use Rattle.object_delivery.specs.Staging.{HasFile, ChangesOnly}
use Rattle.object_delivery.proofs.FileMapLemmas.{remove-insert, remove-remove, appended-nil, appended-appended}

-- the bytes in front of the rest were added to the file, and nothing else is changed
pub record Filling (old now : FilesView) (name bytes rest : List ℕ) : Type 0 where
  pub done : List ℕ
  pub split : bytes ≡ done ++ rest
  pub files : Became old.files now.files (appended old.files.value name done)
  pub overruns : now.overruns ≡ old.overruns
  pub still : Still old.faults now.faults

no_length : {A : Type 0} (xs : List A) → length xs ≡ 0 → xs ≡ []
no_length [] none = refl
no_length (x ∷ xs) none = absurd (omega arith)

-- what holds at either answer holds at `Err`
pub on_err : {T E P : Type 0} (result : Result T E) → P → OnErr result P
on_err (Ok value) holds = tt
on_err (Err fault) holds = holds

-- nothing was added yet
pub filling-begins : (old : FilesView) (name bytes : List ℕ) → (IsTrue old.files.known → HasFile old.files.value name)
    → Filling old old name bytes bytes
filling-begins old name bytes there = record {
  done = [];
  split = refl;
  files = record { known = λ k. k; became = λ k. appended-nil old.files.value name (there k) };
  overruns = refl;
  still = refl;
}

-- what an append adds to it
added : (old mid new : Told Files) (name done piece : List ℕ) → Became old mid (appended old.value name done)
    → Became mid new (appended mid.value name piece) → Became old new (appended old.value name (done ++ piece))
added old mid new name done piece before then = record {
  known = λ k. before.known (then.known k);
  became = λ k. then.became k ∙ ap (λ files. appended files name piece) (before.became (then.known k))
      ∙ appended-appended old.value name done piece;
}

-- a piece was added
pub filling-more : (old mid new : FilesView) (name bytes rest after : List ℕ) (n : ℕ) → Filling old mid name bytes rest
    → Became mid.files new.files (appended mid.files.value name (take n rest)) → after ≡ drop n rest → new.overruns ≡ mid.overruns
    → Still mid.faults new.faults → Filling old new name bytes after
filling-more old mid new name bytes rest after n filling add left overruns still = record {
  done = filling.done ++ take n rest;
  split = filling.split ∙ ap (λ r. filling.done ++ r) (sym (take-append-drop n rest) ∙ ap (λ r. take n rest ++ r) (sym left))
      ∙ sym (append_assoc filling.done (take n rest) after);
  files = added old.files mid.files new.files name filling.done (take n rest) filling.files add;
  overruns = overruns ∙ filling.overruns;
  still = still ∙ filling.still;
}

-- all bytes were added
pub filling-ends : (old now : FilesView) (name bytes rest : List ℕ) → Filling old now name bytes rest → length rest ≡ 0
    → Became old.files now.files (appended old.files.value name bytes)
filling-ends old now name bytes rest filling empty =
    let whole : filling.done ≡ bytes = sym (filling.split ∙ ap (λ r. filling.done ++ r) (no_length rest empty) ∙ append-nil filling.done) in
    subst (λ done. Became old.files now.files (appended old.files.value name done)) whole filling.files

-- only the file that is being written was changed
pub changes-written : (old new : Told Files) (name done : List ℕ) → Became old new (insert old.value name done) → ChangesOnly old new name
changes-written old new name done files = record {
  known = files.known;
  others = λ k. ap (λ fs. remove fs name) (files.became k) ∙ remove-insert old.value name done;
}

-- only that file was taken away
pub changes-removed : (old new : Told Files) (name : List ℕ) → Became old new (remove old.value name) → ChangesOnly old new name
changes-removed old new name files = record {
  known = files.known;
  others = λ k. ap (λ fs. remove fs name) (files.became k) ∙ remove-remove old.value name;
}

-- nothing was changed
pub changes-none : (old new : Told Files) (name : List ℕ) → Became old new old.value → ChangesOnly old new name
changes-none old new name files = record { known = files.known; others = λ k. ap (λ fs. remove fs name) (files.became k) }

-- one change after another
pub changes-then : (old mid new : Told Files) (name : List ℕ) → ChangesOnly old mid name → ChangesOnly mid new name
    → ChangesOnly old new name
changes-then old mid new name first second =
    record { known = λ k. first.known (second.known k); others = λ k. second.others k ∙ first.others (second.known k) }

-- whatever an append answers, it changes only its file
pub changes-append : (old new : Told Files) (name piece : List ℕ) (result : Result ℕ EdgeFault) → Appends old new name piece result
    → ChangesOnly old new name
changes-append old new name piece (Ok n) appends = changes-written old new name _ appends
changes-append old new name piece (Err fault) appends = elim appends [
  | inl none ↦ changes-none old new name none
  | inr front ↦ changes-written old new name _ front.files
]

-- a piece that wasn't added ends the writing
pub filling-stops : (old mid : FilesView) (new : Told Files) (name bytes rest : List ℕ) (result : Result ℕ EdgeFault)
    → Filling old mid name bytes rest → Appends mid.files new name rest result → ChangesOnly old.files new name
filling-stops old mid new name bytes rest result filling appends =
    changes-then old.files mid.files new name (changes-written old.files mid.files name _ filling.files)
    (changes-append mid.files new name rest result appends)
