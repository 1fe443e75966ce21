-- An answer that says what stands is the only one.
use Rattle.std.proofs.Common.{◌≡◌, ℕ, Result, Ok, Err, refl, inl, inr}
use Rattle.std.specs.Prelude.{IfOk, IfErr}
use Rattle.job_list.specs.declared.fault.JobFault.{JobFault}
use Rattle.job_list.specs.declared.fault.JobError.{JobError}
use Rattle.job_list.specs.declared.fault.JobError.TheVariants.{Fault, Memory}
use Rattle.job_list.specs.Answers.{IsError, Gives, GivesFault}

module _ {T : Type 0} (Means : T → Type 0) (Stands : ℕ → JobFault → Type 0) (apart : (x : T) (at : ℕ) (fault : JobFault) → Means x
    → Stands at fault → ⊥) where
  pub gives_value : ((x y : T) → Means x → Means y → x ≡ y) → (r : Result T JobError) (x : T) → IfOk r Means
      → IfErr r (IsError Stands) → Means x → Gives x r
  gives_value one (Ok y) x ok err h = one y x ok h
  gives_value one (Err (Fault at fault)) x ok err h = absurd (apart x at fault h err)
  gives_value one (Err Memory) x ok err h = refl

  pub gives_fault : ((at there : ℕ) (fault other : JobFault) → Stands at fault → Stands there other
      → (at ≡ there) × (fault ≡ other)) → (r : Result T JobError) (at : ℕ) (fault : JobFault) → IfOk r Means
      → IfErr r (IsError Stands) → Stands at fault → GivesFault at fault r
  gives_fault one (Ok y) at fault ok err h = absurd (apart y at fault ok h)
  gives_fault one (Err (Fault there other)) at fault ok err h = let same = one there at other fault err h in inl (rw (same.0, same.1) refl)
  gives_fault one (Err Memory) at fault ok err h = inr refl
