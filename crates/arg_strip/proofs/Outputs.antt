-- The name of the output of a command that may be sent gives no reason where it is sent.
use Rattle.std.proofs.Common.{◌≡◌, ℕ, zero, suc, ◌+◌, ◌-◌, ◌<◌, Bool, true, false, not, ◌||◌, ◌&&◌, nat_eq, List, [], ◌∷◌, ◌++◌, length}
use Rattle.std.proofs.Common.{take, drop, codes, Option, Some, None, is_some, unwrap_or, if◌then◌else◌, refl, sym, ◌∙◌, ap, subst}
use Rattle.std.proofs.Common.{append_assoc, length-append, arith}
use Rattle.std.specs.Prelude.{bytes_eq}
use Rattle.std.specs.List.{slice_get, list_all, ends_with}
use Rattle.std.proofs.lemmas.List.{same_from_push}
use Rattle.std.proofs.lemmas.Bool.{false≢true, and_parts}
use Rattle.std.proofs.lemmas.Bool.Decides.{Decides-eqb}
use Rattle.std.proofs.lemmas.Slice.Eq.{bytes_eq-Decides, ends_is}
use Rattle.option_table.specs.declared.row.Form.{Form}
use Rattle.option_table.specs.declared.row.Form.TheVariants as form
use Rattle.option_table.specs.declared.row.Effect.{Effect}
use Rattle.option_table.specs.declared.row.Effect.TheVariants as effect
use Rattle.option_table.specs.declared.row.OptionRow.{OptionRow}
use Rattle.option_table.specs.declared.table.Found.{Found}
use Rattle.option_table.specs.Rows.{found, row_at}
use Rattle.option_table.specs.Gcc.{gcc_rows}
use Rattle.option_table.proofs.Positions.{fails_by}
use Rattle.arg_scan.specs.declared.names.Ending.{Ending}
use Rattle.arg_scan.specs.declared.why.Why.{Why}
use Rattle.arg_scan.specs.declared.why.Why.TheVariants as why
use Rattle.arg_scan.specs.declared.part.Operand.{Operand}
use Rattle.arg_scan.specs.declared.part.Operand.TheVariants as operand
use Rattle.arg_scan.specs.declared.part.Role.{Role}
use Rattle.arg_scan.specs.declared.part.Role.TheVariants as role
use Rattle.arg_scan.specs.declared.part.Part.{Part}
use Rattle.arg_scan.specs.declared.part.Part.TheVariants as part
use Rattle.arg_scan.specs.declared.verdict.Action.{Action}
use Rattle.arg_scan.specs.declared.verdict.Action.TheVariants.{Compile, Assemble}
use Rattle.arg_scan.specs.Names.{ending_of, is_reserved, last_name, object_ending}
use Rattle.arg_scan.specs.Roles.{operand_of, option_role, owed, role_of, source_role}
use Rattle.arg_scan.specs.Forces.{names_output, output_reasons, when}
use Rattle.arg_strip.proofs.Labels.{Label, label, labels, labels_from, tail_part, operand_text, output_label, IsFree}
use Rattle.arg_strip.proofs.Filtered.{when_free}

-- each row that names an output takes an operand
abbrev is_output_effect : Effect → Bool
is_output_effect effect.Output = true
is_output_effect effect.Keep = false
is_output_effect effect.Strip = false
is_output_effect effect.Action = false
is_output_effect (effect.Local number) = false
is_output_effect effect.Listing = false

abbrev is_none_form : Form → Bool
is_none_form form.None = true
is_none_form form.Next = false
is_none_form form.Joined = false
is_none_form form.Either = false

abbrev takes_name : OptionRow → Bool
takes_name row = not (is_output_effect row.effect && is_none_form row.form)

rows_take_names : list_all takes_name gcc_rows ≡ true
unfolding gcc_rows
rows_take_names = refl

row_takes_name : (rows : List OptionRow) (at : ℕ) → list_all takes_name rows ≡ true → takes_name (row_at rows at) ≡ true
row_takes_name [] at h = refl
row_takes_name (row ∷ rows) zero h = (and_parts (takes_name row) (list_all takes_name rows) h).0
row_takes_name (row ∷ rows) (suc at) h = row_takes_name rows at (and_parts (takes_name row) (list_all takes_name rows) h).1

either_present : (b : Bool) (from : ℕ) → (if b then operand.Next else operand.Attached from) ≡ operand.Absent → ⊥
either_present true from h = cc
either_present false from h = cc

absent_form : (f : Form) (joined : ℕ) (word : List ℕ) → operand_of f joined word ≡ operand.Absent → f ≡ form.None
absent_form form.None joined word h = refl
absent_form form.Next joined word h = cc
absent_form form.Joined joined word h = cc
absent_form form.Either joined word h = absurd (either_present _ joined h)

abbrev effect_in : Role → Effect
effect_in (role.Flag effect operand) = effect
effect_in _ = effect.Keep

abbrev operand_in : Role → Operand
operand_in (role.Flag effect operand) = operand
operand_in _ = operand.Absent

option_present : (o : Option Found) (word : List ℕ) → option_role o word ≡ role.Flag effect.Output operand.Absent → ⊥
option_present None word h = cc
option_present (Some at) word h =
    let row = row_at gcc_rows at.row in
    let effect_is : row.effect ≡ effect.Output = ap effect_in h in
    let form_is : row.form ≡ form.None = absent_form row.form at.joined word (ap operand_in h) in
    false≢true
    (sym (ap (λ e. not (is_output_effect e && is_none_form row.form)) effect_is ∙ ap (λ f. not (true && is_none_form f)) form_is)
    ∙ row_takes_name gcc_rows at.row rows_take_names)

role_by : (dash flag response : Bool) (o : Option Found) (e : Option Ending) (word : List ℕ)
    → (if dash then role.Dash else (if flag then option_role o word else (if response then role.Response else source_role e)))
    ≡ role.Flag effect.Output operand.Absent → ⊥
role_by true flag response o e word h = cc
role_by false true response o e word h = option_present o word h
role_by false false true o e word h = cc
role_by false false false o None word h = cc
role_by false false false o (Some e) word h = cc

-- an output option has an operand
pub output_present : (word : List ℕ) → role_of word ≡ role.Flag effect.Output operand.Absent → ⊥
unfolding role_of
output_present word h = role_by _ _ _ (found gcc_rows word) (ending_of (last_name word)) word h

abbrev IsCalm : List ℕ → Type 0
IsCalm name = slice_get (output_reasons name) 0 ≡ None

some_is : (x y : List ℕ) → Some x ≡ Some y → x ≡ y
some_is x y h = cc

-- what an output option before these words names
next_calm : (word : List ℕ) (words : List (List ℕ)) (source output : Bool) (text : List ℕ)
    → IsFree source output (label (part.Word (role.Flag effect.Output operand.Next)) word ∷ labels_from (Some effect.Output) words)
    → Some (operand_text (part.Word (role.Flag effect.Output operand.Next)) word (labels_from (Some effect.Output) words))
    ≡ Some text → IsCalm text
next_calm word [] source output text free h = absurd (missing why.MissingOperand free.0)
  where
    missing : (w : Why) → Some w ≡ None → ⊥
    missing w h = cc
next_calm word (x ∷ words) source output text free h = subst IsCalm (some_is x text h) free.1.0

attached_calm : (word : List ℕ) (from : ℕ) (output : Bool) (text : List ℕ)
    → slice_get (when output why.ManyOutputs ++ output_reasons (drop from word)) 0 ≡ None → Some (drop from word) ≡ Some text → IsCalm text
attached_calm word from output text free h = subst IsCalm (some_is (drop from word) text h) (when_free output why.ManyOutputs _ free)

role_calm : (r : Role) (word : List ℕ) (words : List (List ℕ)) (source output : Bool) (text : List ℕ) → role_of word ≡ r
    → IsFree source output (label (part.Word r) word ∷ labels_from (owed (part.Word r)) words)
    → (if names_output (part.Word r) then Some (operand_text (part.Word r) word (labels_from (owed (part.Word r)) words)) else
    output_label (labels_from (owed (part.Word r)) words)) ≡ Some text
    → ((owner : Option Effect) (s o : Bool) → IsFree s o (labels_from owner words)
    → output_label (labels_from owner words) ≡ Some text → IsCalm text) → IsCalm text
role_calm role.Dash word words source output text e free h later = later None _ _ free.1 h
role_calm (role.Flag effect.Output operand.Absent) word words source output text e free h later = absurd (output_present word e)
role_calm (role.Flag effect.Output (operand.Attached from)) word words source output text e free h later =
    attached_calm word from output text free.0 h
role_calm (role.Flag effect.Output operand.Next) word words source output text e free h later =
    next_calm word words source output text free h
role_calm (role.Flag effect.Keep o) word words source output text e free h later = later _ _ _ free.1 h
role_calm (role.Flag effect.Strip o) word words source output text e free h later = later _ _ _ free.1 h
role_calm (role.Flag effect.Action o) word words source output text e free h later = later _ _ _ free.1 h
role_calm (role.Flag (effect.Local number) o) word words source output text e free h later = later _ _ _ free.1 h
role_calm (role.Flag effect.Listing o) word words source output text e free h later = later _ _ _ free.1 h
role_calm role.Response word words source output text e free h later = later None _ _ free.1 h
role_calm (role.Source ending) word words source output text e free h later = later None _ _ free.1 h
role_calm role.Other word words source output text e free h later = later None _ _ free.1 h

named_calm : (owner : Option Effect) (words : List (List ℕ)) (source output : Bool) (text : List ℕ)
    → IsFree source output (labels_from owner words) → output_label (labels_from owner words) ≡ Some text → IsCalm text
named_calm owner [] source output text free h = cc
named_calm (Some effect) (word ∷ words) source output text free h = named_calm None words _ _ text free.1 h
named_calm None (word ∷ words) source output text free h =
    role_calm (role_of word) word words source output text refl free h (λ owner s o f g. named_calm owner words s o text f g)

-- a name that the command gives
pub given_calm : (words : List (List ℕ)) (text : List ℕ) → IsFree false false (labels words)
    → output_label (labels words) ≡ Some text → IsCalm text
given_calm [] text free h = cc
given_calm (word ∷ words) text free h = named_calm None words _ _ text free.1 h

calm_by : (a b : Bool) → a ≡ false → b ≡ false → slice_get (when a why.StandardStream ++ when b why.ReservedName) 0 ≡ None
calm_by true b h k = absurd (false≢true (sym h))
calm_by false true h k = absurd (false≢true (sym k))
calm_by false false h k = refl

-- a name that ends in two bytes, the last of them no `~`
two_calm : (front : List ℕ) (a b : ℕ) → (b ≡ 126 → ⊥) → IsCalm (front ++ a ∷ b ∷ [])
two_calm front a b plain =
    calm_by _ _
    (fails_by _ (λ h. let e = (bytes_eq-Decides (front ++ a ∷ b ∷ []) (codes "-")).0 h in let f = ap length e in
    omega (arith, f, length-append front (a ∷ b ∷ []))))
    (fails_by _ (λ h.
    let name = front ++ a ∷ b ∷ [] in
    let is = (ends_is Decides-eqb name (codes ".farm~") _ refl).0 h in
    plain (same_from_push (front ++ a ∷ []) (take (length name - 6) name ++ codes ".farm") b 126
    (append_assoc front (a ∷ []) (b ∷ []) ∙ is ∙ sym (append_assoc (take (length name - 6) name) (codes ".farm") (126 ∷ [])))).1))

-- a name that is derived from the source's
pub derived_calm : (front : List ℕ) (action : Action) → IsCalm (front ++ object_ending action)
derived_calm front Compile = two_calm front 46 111 (λ e. absurd (omega (arith, e)))
derived_calm front Assemble = two_calm front 46 115 (λ e. absurd (omega (arith, e)))
