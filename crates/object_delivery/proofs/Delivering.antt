-- A put, step by step.
use Rattle.std.proofs.Common.{◌≡◌, ◌≤◌, ℕ, List, [], ◌++◌, refl, sym, ◌∙◌, ap, subst, inl, inr, rules, arith, true}
use Rattle.std.specs.Prelude.{IsTrue, Option, Some, None, Result, Ok, Err, OnOk, OnErr, IfOk, IfErr}
use Rattle.std.specs.FinMap.{get, insert, remove}
use Rattle.std.specs.Result.{is_ok}
use Rattle.edge_traits.specs.declared.faults.EdgeFault.{EdgeFault}
use Rattle.edge_traits.specs.declared.faults.FetchFault.{FetchFault}
use Rattle.edge_traits.specs.declared.faults.FetchFault.TheVariants.{Failed as FetchFailed, Absent, TooMuch, Memory as FetchMemory}
use Rattle.edge_traits.specs.Told.{Became}
use Rattle.edge_traits.specs.FileMaps.{IsStaged, files_after}
use Rattle.edge_traits.specs.Keepers.{IsIdle, IsPending, HasPending, Fetched, FetchCause, KeeperStill}
use Rattle.object_delivery.specs.declared.keeper.Staged.{Staged}
use Rattle.object_delivery.specs.FileViews.{FilesView, as_keeper, content_of, appended}
use Rattle.object_delivery.specs.Staging.{path_of, IsStaging, IsSound, staged, finished, pending_put, keeper_view, begun, still}
use Rattle.object_delivery.specs.Staging.{delivered, ChangesOnly, RemovedOrLeft, DroppedPut, AbandonedPut, FailedPut}
use Rattle.object_delivery.proofs.FileMapLemmas.{at_written, remove-insert, appended-insert, content-insert}
use Rattle.object_delivery.proofs.StagedNames.{finished-delivered, finished-same, get-finished}
use Rattle.object_delivery.proofs.Filling.{changes-written, changes-none, changes-removed, changes-then}

-- where no file but the one that is being written was changed, the keeper's files are as before
pub same-finished : (old new : FilesView) (before after : Option (List ℕ)) (path : List ℕ)
    → ChangesOnly old.files new.files (staged path)
    → Became (keeper_view old before).files (keeper_view new after).files (keeper_view old before).files.value
same-finished old new before after path changes =
    record { known = changes.known; became = λ k. finished-same old.files.value new.files.value path (changes.others k) }

-- what a put that was given up changes
pub changes-dropped : (old new : FilesView) (path : List ℕ) (fault : EdgeFault) → DroppedPut old new path fault
    → ChangesOnly old.files new.files (staged path)
changes-dropped old new path fault dropped = elim dropped [
  | inl removed ↦ changes-removed old.files new.files (staged path) removed
  | inr left ↦ left.files
]

pub changes-failed : (old new : FilesView) (path : List ℕ) (fault : EdgeFault) → FailedPut old new path fault
    → ChangesOnly old.files new.files (staged path)
changes-failed old new path fault failed = elim failed [
  | inl dropped ↦ changes-dropped old new path fault dropped
  | inr untouched ↦ record {
    known = λ k. subst (λ v. IsTrue v.files.known) untouched.same k;
    others = λ k. ap (λ v. remove v.files.value (staged path)) untouched.same;
  }
]

pub changes-abandoned : (old new : FilesView) (path : List ℕ) → AbandonedPut old new path → ChangesOnly old.files new.files (staged path)
changes-abandoned old new path dropped = elim dropped [
  | inl removed ↦ changes-removed old.files new.files (staged path) removed
  | inr left ↦ changes-none old.files new.files (staged path) left.0
]

-- ---- what each call tells

pub begin-pending : (old new : FilesView) (path : List ℕ) (before after : Option (List ℕ)) (result : Result Unit EdgeFault)
    → after ≡ begun path result → OnOk result (Became old.files new.files (insert old.files.value (staged path) []))
    → OnOk result (HasPending (keeper_view new after) path [])
begin-pending old new path before after (Ok done) is ok =
    subst (λ (p : Option (List ℕ)). HasPending (keeper_view new p) path []) (sym is)
    (refl, λ k. ap (λ files. content_of files (staged path)) (ok.became k) ∙ content-insert old.files.value (staged path) [])
begin-pending old new path before after (Err fault) is ok = tt

pub begin-idle : (new : FilesView) (path : List ℕ) (after : Option (List ℕ)) (result : Result Unit EdgeFault)
    → after ≡ begun path result → OnErr result (IsIdle (keeper_view new after))
begin-idle new path after (Ok done) is = tt
begin-idle new path after (Err fault) is = ap (λ p. pending_put new.files p) is

pub begin-files : (old new : FilesView) (path : List ℕ) (before after : Option (List ℕ)) (result : Result Unit EdgeFault)
    → OnOk result (Became old.files new.files (insert old.files.value (staged path) [])) → IfErr result (FailedPut old new path)
    → Became (keeper_view old before).files (keeper_view new after).files (keeper_view old before).files.value
begin-files old new path before after (Ok done) ok err =
    same-finished old new before after path (changes-written old.files new.files (staged path) [] ok)
begin-files old new path before after (Err fault) ok err = same-finished old new before after path (changes-failed old new path fault err)

pub add-pending : (old new : FilesView) (before after : Option (List ℕ)) (piece : List ℕ) (result : Result Unit EdgeFault)
    → after ≡ still before result
    → ((path : List ℕ) → before ≡ Some path → OnOk result (Became old.files new.files (appended old.files.value (staged path) piece)))
    → (path bytes : List ℕ) → HasPending (keeper_view old before) path bytes
    → OnOk result (HasPending (keeper_view new after) path (bytes ++ piece))
add-pending old new None after piece (Ok done) is ok path bytes put = absurd put
add-pending old new (Some p) after piece (Ok done) is ok path bytes put =
    let grew = ok p refl in
    subst (λ (q : Option (List ℕ)). HasPending (keeper_view new q) path (bytes ++ piece)) (sym is) (
      put.0,
      λ k. ap (λ files. content_of files (staged p)) (grew.became k)
          ∙ content-insert old.files.value (staged p) (content_of old.files.value (staged p) ++ piece)
          ∙ ap (λ (x : List ℕ). x ++ piece) (put.1 (grew.known k)),
    )
add-pending old new before after piece (Err fault) is ok path bytes put = tt

pub add-idle : (new : FilesView) (before after : Option (List ℕ)) (result : Result Unit EdgeFault) → after ≡ still before result
    → OnErr result (IsIdle (keeper_view new after))
add-idle new before after (Ok done) is = tt
add-idle new before after (Err fault) is = ap (λ p. pending_put new.files p) is

pub add-files : (old new : FilesView) (before after : Option (List ℕ)) (piece : List ℕ) (result : Result Unit EdgeFault)
    → IsPending (keeper_view old before)
    → ((path : List ℕ) → before ≡ Some path → OnOk result (Became old.files new.files (appended old.files.value (staged path) piece)))
    → ((path : List ℕ) → before ≡ Some path → IfErr result (DroppedPut old new path))
    → Became (keeper_view old before).files (keeper_view new after).files (keeper_view old before).files.value
add-files old new None after piece result there ok err = absurd (search rules)
add-files old new (Some p) after piece (Ok done) there ok err =
    same-finished old new (Some p) after p (changes-written old.files new.files (staged p) _ (ok p refl))
add-files old new (Some p) after piece (Err fault) there ok err =
    same-finished old new (Some p) after p (changes-dropped old new p fault (err p refl))

-- what a commit does to the finished files
commit-files : (old new : FilesView) (p : List ℕ) (after : Option (List ℕ)) (result : Result Unit EdgeFault) → ¬ (IsStaged p)
    → OnOk result (Became old.files new.files (delivered old.files.value p (content_of old.files.value (staged p))))
    → IfErr result (DroppedPut old new p)
    → (path bytes : List ℕ) → HasPending (keeper_view old (Some p)) path bytes
    → Became (keeper_view old (Some p)).files (keeper_view new after).files
    (files_after (keeper_view old (Some p)).files.value path bytes result)
commit-files old new p after (Ok done) other ok err path bytes put = record {
  known = ok.known;
  became = λ k. ap (λ files. finished files) (ok.became k)
      ∙ finished-delivered old.files.value p (content_of old.files.value (staged p)) other
      ∙ ap (λ content. insert (finished old.files.value) p content) (put.1 (ok.known k))
      ∙ ap (λ name. insert (finished old.files.value) name bytes) put.0;
}
commit-files old new p after (Err fault) other ok err path bytes put =
    same-finished old new (Some p) after p (changes-dropped old new p fault err)

-- the same of a keeper that holds what is pending
pub commit-inside : (old new : FilesView) (pending : Option Staged) (s : Staged) (after : Option (List ℕ))
    (result : Result Unit EdgeFault) → pending ≡ Some s → IsSound old pending
    → OnOk result (Became old.files new.files (insert (remove old.files.value s.name) s.path (content_of old.files.value s.name)))
    → IfErr result (RemovedOrLeft old new s.name)
    → (path bytes : List ℕ) → HasPending (keeper_view old (path_of pending)) path bytes
    → Became (keeper_view old (path_of pending)).files (keeper_view new after).files
    (files_after (keeper_view old (path_of pending)).files.value path bytes result)
commit-inside old new pending s after result is sound ok err =
    let st : IsStaging old s.path s.name = subst (λ (p : Option Staged). IsSound old p) is sound in
    let ok' : OnOk result (Became old.files new.files (delivered old.files.value s.path (content_of old.files.value (staged s.path)))) =
    subst (λ (name : List ℕ). OnOk result
    (Became old.files new.files (insert (remove old.files.value name) s.path (content_of old.files.value name)))) st.named ok in
    let err' : IfErr result (DroppedPut old new s.path) =
    subst (λ (name : List ℕ). IfErr result (RemovedOrLeft old new name)) st.named err in
    subst (λ (p : Option Staged). (path bytes : List ℕ) → HasPending (keeper_view old (path_of p)) path bytes
    → Became (keeper_view old (path_of p)).files (keeper_view new after).files
    (files_after (keeper_view old (path_of p)).files.value path bytes result))
    (sym is) (commit-files old new s.path after result st.other ok' err')

-- what is being written is there
pub staging-begins : (old new : FilesView) (wanted path name : List ℕ) (result : Result Unit EdgeFault) → name ≡ staged wanted
    → path ≡ wanted → ¬ (IsStaged wanted) → is_ok result ≡ true
    → OnOk result (Became old.files new.files (insert old.files.value name [])) → IsStaging new path name
staging-begins old new wanted path name (Ok done) named is other done_ok ok = record {
  named = named ∙ ap staged (sym is);
  other = λ bad. other (subst (λ (x : List ℕ). IsStaged x) is bad);
  there = λ k. record { content = []; there = ap (λ files. get files name) (ok.became k) ∙ at_written old.files.value name [] };
}
staging-begins old new wanted path name (Err fault) named is other done_ok ok = absurd cc

pub staging-more : (old new : FilesView) (pending : Option Staged) (s : Staged) (piece : List ℕ) (result : Result Unit EdgeFault)
    → pending ≡ Some s → IsSound old pending → is_ok result ≡ true
    → OnOk result (Became old.files new.files (appended old.files.value s.name piece)) → IsStaging new s.path s.name
staging-more old new pending s piece (Ok done) is sound done_ok ok =
    let st : IsStaging old s.path s.name = subst (λ (p : Option Staged). IsSound old p) is sound in
    record {
      named = st.named;
      other = st.other;
      there = λ k. record {
        content = content_of old.files.value s.name ++ piece;
        there =
            ap (λ files. get files s.name) (ok.became k) ∙ at_written old.files.value s.name (content_of old.files.value s.name ++ piece);
      };
    }
staging-more old new pending s piece (Err fault) is sound done_ok ok = absurd cc

-- ---- a put, step by step

-- these bytes are being written, and nothing else was done
pub record Written (old now : FilesView) (pending : Option (List ℕ)) (path bytes : List ℕ) : Type 0 where
  pub files : Became old.files now.files (insert old.files.value (staged path) bytes)
  pub later : old.faults ≤ now.faults
  pub waits : pending ≡ Some path

pub written-none : (old now : FilesView) (pending : Option (List ℕ)) (path bytes : List ℕ) → bytes ≡ []
    → Became old.files now.files (insert old.files.value (staged path) []) → old.faults ≤ now.faults → pending ≡ Some path
    → Written old now pending path bytes
written-none old now pending path bytes none files later waits = record {
  files = subst (λ (x : List ℕ). Became old.files now.files (insert old.files.value (staged path) x)) (sym none) files;
  later = later;
  waits = waits;
}

pub written-more : (old mid now : FilesView) (before after : Option (List ℕ)) (path piece : List ℕ) → Written old mid before path []
    → Became mid.files now.files (appended mid.files.value (staged path) piece) → mid.faults ≤ now.faults → after ≡ before
    → Written old now after path piece
written-more old mid now before after path piece w files later same = record {
  files = record {
    known = λ k. w.files.known (files.known k);
    became = λ k. files.became k ∙ ap (λ fs. appended fs (staged path) piece) (w.files.became (files.known k))
        ∙ appended-insert old.files.value (staged path) [] piece;
  };
  later = omega (arith, later, w.later);
  waits = same ∙ w.waits;
}

pub put-ok : (old mid new : FilesView) (pending : Option (List ℕ)) (path bytes : List ℕ) (result : Result Unit EdgeFault)
    → Written old mid pending path bytes
    → OnOk result (Became mid.files new.files (delivered mid.files.value path (content_of mid.files.value (staged path))))
    → OnOk result (Became old.files new.files (delivered old.files.value path bytes))
put-ok old mid new pending path bytes (Ok done) w ok = record {
  known = λ k. w.files.known (ok.known k);
  became = λ k. ok.became k
      ∙ ap (λ fs. delivered fs path (content_of fs (staged path))) (w.files.became (ok.known k))
      ∙ ap (λ fs. insert fs path (content_of (insert old.files.value (staged path) bytes) (staged path)))
      (remove-insert old.files.value (staged path) bytes)
      ∙ ap (λ content. insert (remove old.files.value (staged path)) path content) (content-insert old.files.value (staged path) bytes);
}
put-ok old mid new pending path bytes (Err fault) w ok = tt

pub put-dropped : (old mid new : FilesView) (pending : Option (List ℕ)) (path bytes : List ℕ) (fault : EdgeFault)
    → Written old mid pending path bytes → DroppedPut mid new path fault → FailedPut old new path fault
put-dropped old mid new pending path bytes fault w dropped = elim dropped [
  | inl removed ↦ inl (inl (record {
    known = λ k. w.files.known (removed.known k);
    became = λ k. removed.became k ∙ ap (λ fs. remove fs (staged path)) (w.files.became (removed.known k))
        ∙ remove-insert old.files.value (staged path) bytes;
  }))
  | inr left ↦ inl (inr (record {
    files = changes-then old.files mid.files new.files (staged path)
        (changes-written old.files mid.files (staged path) bytes w.files) left.files;
    rose = omega (arith, left.rose, w.later);
  }))
]

pub put-err : (old mid new : FilesView) (pending : Option (List ℕ)) (path bytes : List ℕ) (result : Result Unit EdgeFault)
    → Written old mid pending path bytes → IfErr result (DroppedPut mid new path) → IfErr result (FailedPut old new path)
put-err old mid new pending path bytes (Ok done) w err = tt
put-err old mid new pending path bytes (Err fault) w err = put-dropped old mid new pending path bytes fault w err

pub commit-idle : (new : FilesView) (after : Option (List ℕ)) → after ≡ None → IsIdle (keeper_view new after)
commit-idle new after is = ap (λ p. pending_put new.files p) is

pub abandon-files : (old new : FilesView) (before after : Option (List ℕ))
    → ((path : List ℕ) → before ≡ Some path → AbandonedPut old new path) → (before ≡ None → new ≡ old)
    → Became (keeper_view old before).files (keeper_view new after).files (keeper_view old before).files.value
abandon-files old new None after dropped same =
    record { known = λ k. subst (λ v. IsTrue v.files.known) (same refl) k; became = λ k. ap (λ v. finished v.files.value) (same refl) }
abandon-files old new (Some p) after dropped same = same-finished old new (Some p) after p (changes-abandoned old new p (dropped p refl))

-- what a put does to the finished files
pub put-files : {T : Type 0} (old new : FilesView) (before after : Option (List ℕ)) (path bytes : List ℕ)
    (result : Result T EdgeFault) → ¬ (IsStaged path)
    → OnOk result (Became old.files new.files (delivered old.files.value path bytes)) → IfErr result (FailedPut old new path)
    → Became (keeper_view old before).files (keeper_view new after).files
    (files_after (keeper_view old before).files.value path bytes result)
put-files old new before after path bytes (Ok done) other ok err = record {
  known = ok.known;
  became = λ k. ap (λ files. finished files) (ok.became k) ∙ finished-delivered old.files.value path bytes other;
}
put-files old new before after path bytes (Err fault) other ok err =
    same-finished old new before after path (changes-failed old new path fault err)

-- what a load of a finished file gives
pub fetched : (path : List ℕ) (bound : ℕ) (now : FilesView) (after : Option (List ℕ)) (result : Result (List ℕ) FetchFault)
    → ¬ (IsStaged path) → IfOk result (Fetched path bound (as_keeper now)) → IfOk result (Fetched path bound (keeper_view now after))
fetched path bound now after (Ok bytes) other loaded =
    record { within = loaded.within; whole = λ k. get-finished now.files.value path other ∙ loaded.whole k }
fetched path bound now after (Err fault) other loaded = tt

pub fetch-cause : (path : List ℕ) (bound : ℕ) (old now : FilesView) (before after : Option (List ℕ))
    (result : Result (List ℕ) FetchFault) → ¬ (IsStaged path) → IfErr result (FetchCause path bound (as_keeper old) (as_keeper now))
    → IfErr result (FetchCause path bound (keeper_view old before) (keeper_view now after))
fetch-cause path bound old now before after (Ok bytes) other cause = tt
fetch-cause path bound old now before after (Err FetchFailed) other cause = record { rose = cause.rose; calm = cause.calm }
fetch-cause path bound old now before after (Err Absent) other cause =
    record { rose = cause.rose; calm = cause.calm; absent = λ k. get-finished now.files.value path other ∙ cause.absent k }
fetch-cause path bound old now before after (Err (TooMuch bytes)) other cause = record {
  rose = cause.rose;
  calm = cause.calm;
  above = cause.above;
  long = λ k. record {
    content = (cause.long k).content;
    there = get-finished now.files.value path other
        ∙ (cause.long k).there;
    long = (cause.long k).long;
  };
}
fetch-cause path bound old now before after (Err FetchMemory) other cause = record { faults = cause.faults; overruns = cause.overruns }

pub fetch-done : (old now : FilesView) (before after : Option (List ℕ)) (result : Result (List ℕ) FetchFault)
    → OnOk result (KeeperStill (as_keeper old) (as_keeper now)) → OnOk result (KeeperStill (keeper_view old before) (keeper_view now after))
fetch-done old now before after (Ok bytes) done = record { faults = done.faults; overruns = done.overruns }
fetch-done old now before after (Err fault) done = tt
