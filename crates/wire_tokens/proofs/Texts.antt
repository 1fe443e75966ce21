-- Each text begins with one spelling, or has one fault, or is short.
use Rattle.std.proofs.Common.{◌≡◌, ℕ, ◌+◌, List, [], ◌++◌, length, take, drop, None, refl, sym, ap, subst, ◌∙◌, arith, inl, inr}
use Rattle.std.specs.Prelude.{◌⊎◌}
use Rattle.std.proofs.lemmas.List.{length-append, length-take, take-append-drop, take-append-le, take_at, take_all, nil_from_length}
use Rattle.wire_tokens.specs.Format.{Field, Format, IsFront, Stands}
use Rattle.wire_tokens.specs.Texts.{Begins, IsShort}
use Rattle.wire_tokens.proofs.Readings.{End, whole, bad, short, Reads, FourLetters, one_reading, some_reading, front_of, reads_front}
use Rattle.wire_tokens.proofs.Readings.{fields_len, front_len, stands-reads, reads-stands}
use Rattle.wire_tokens.proofs.Longer.{stands-longer}

-- The spellings of values are the texts that are whole fronts of a format.
pub record Spelling {V F : Type 0} (format : Format F) (Spells : List ℕ → V → Type 0) : Type 0 where
  pub four : FourLetters format
  pub fields : V → List Field
  pub front : (text : List ℕ) (value : V) → Spells text value → IsFront format [] (fields value) text
  pub whole_due : (value : V) → format.due (fields value) ≡ None
  pub spelled : (fs : List Field) (text : List ℕ) → IsFront format [] fs text → format.due fs ≡ None
      → (value : V) × Spells text value × (fs ≡ fields value)
  pub same : (v w : V) → fields v ≡ fields w → v ≡ w

-- ---- a spelling at the front is a reading that ends whole

pub begins-reads : {V F : Type 0} (format : Format F) (Spells : List ℕ → V → Type 0) (s : Spelling format Spells) (text : List ℕ)
    (used : ℕ) (v : V) → Begins Spells text used v → Reads format [] text (s.fields v) whole
begins-reads format Spells s text used v b =
    subst (λ (x : List ℕ). Reads format [] x (s.fields v) whole) (take-append-drop used text)
    (reads_front format [] (take used text) (drop used text) (s.fields v) whole (s.front (take used text) v b.spelled) (s.whole_due v))

pub used_is : {V F : Type 0} (format : Format F) (Spells : List ℕ → V → Type 0) (s : Spelling format Spells) (text : List ℕ)
    (used : ℕ) (v : V) → Begins Spells text used v → used ≡ fields_len (s.fields v)
used_is format Spells s text used v b =
    let len : length (take used text) ≡ used = omega (arith, length-take used text, b.within) in
    sym len ∙ front_len format s.four [] (s.fields v) (take used text) (s.front (take used text) v b.spelled)

pub reads-begins : {V F : Type 0} (format : Format F) (Spells : List ℕ → V → Type 0) (s : Spelling format Spells) (text : List ℕ)
    (fields : List Field) → Reads format [] text fields whole
    → (v : V) × Begins Spells text (fields_len fields) v × (fields ≡ s.fields v)
reads-begins {V} format Spells s text fields r =
    let z = front_of format [] text fields whole r in
    let w = s.spelled fields z.0 z.2 z.4 in
    let len : length z.0 ≡ fields_len fields = front_len format s.four [] fields z.0 z.2 in
    let taken : take (fields_len fields) text ≡ z.0 = ap (take (fields_len fields)) z.3 ∙ take_at z.0 z.1 (fields_len fields) len in (
      w.0,
      record {
        within = omega (arith, len, ap length z.3, length-append z.0 z.1);
        spelled = subst (λ (x : List ℕ). Spells x w.0) (sym taken) w.1;
      },
      w.2,
    )

-- ---- at most one

-- No spelling begins another, and a spelling has one value.
pub one_value : {V F : Type 0} (format : Format F) (Spells : List ℕ → V → Type 0) (s : Spelling format Spells) (text : List ℕ)
    (i j : ℕ) (v w : V) → Begins Spells text i v → Begins Spells text j w → (i ≡ j) × (v ≡ w)
one_value format Spells s text i j v w a b =
    let z = one_reading format s.four [] text (s.fields v) (s.fields w) whole whole (begins-reads format Spells s text i v a)
    (begins-reads format Spells s text j w b) in
    (used_is format Spells s text i v a ∙ ap fields_len z.0 ∙ sym (used_is format Spells s text j w b), s.same v w z.0)

-- Where a prefix is a spelling no fault stands.
pub spelled_or_fault : {V F : Type 0} (format : Format F) (Spells : List ℕ → V → Type 0) (s : Spelling format Spells)
    (text : List ℕ) (used at : ℕ) (v : V) (fault : F) → Begins Spells text used v → Stands format text at fault → ⊥
spelled_or_fault format Spells s text used at v fault b t =
    let z = one_reading format s.four [] text (s.fields v) t.fields whole (bad t.place fault)
    (begins-reads format Spells s text used v b) (stands-reads format text at fault t) in
    let e = z.1 in
    cc

-- ---- at least one

pub reads-short : {V F : Type 0} (format : Format F) (Spells : List ℕ → V → Type 0) (s : Spelling format Spells) (text : List ℕ)
    (fields : List Field) → Reads format [] text fields short → IsShort format Spells text
reads-short format Spells s text fields r = record {
  no_fault = λ at fault t.
      let z = one_reading format s.four [] text fields t.fields short (bad t.place fault) r (stands-reads format text at fault t) in
      let e = z.1 in
      cc;
  no_value = λ used v b.
      let z = one_reading format s.four [] text fields (s.fields v) short whole r (begins-reads format Spells s text used v b) in
      let e = z.1 in
      cc;
}

by_end : {V F : Type 0} (format : Format F) (Spells : List ℕ → V → Type 0) (s : Spelling format Spells) (text : List ℕ)
    (fields : List Field) (end : End F) → Reads format [] text fields end
    → ((used : ℕ) × (v : V) × Begins Spells text used v)
    ⊎ (((at : ℕ) × (fault : F) × Stands format text at fault) ⊎ IsShort format Spells text)
by_end format Spells s text fields whole r = let z = reads-begins format Spells s text fields r in inl (fields_len fields, z.0, z.1)
by_end format Spells s text fields (bad place fault) r =
    inr (inl (fields_len fields + place, fault, reads-stands format s.four text fields place fault r))
by_end format Spells s text fields short r = inr (inr (reads-short format Spells s text fields r))

-- A prefix is a spelling, or a fault stands, or the text is short.
pub one_of_three : {V F : Type 0} (format : Format F) (Spells : List ℕ → V → Type 0) (s : Spelling format Spells) (text : List ℕ)
    → ((used : ℕ) × (v : V) × Begins Spells text used v)
    ⊎ (((at : ℕ) × (fault : F) × Stands format text at fault) ⊎ IsShort format Spells text)
one_of_three format Spells s text = let z = some_reading format s.four text in by_end format Spells s text z.0 z.1 z.2

-- How a short text is read.
pub short-reads : {V F : Type 0} (format : Format F) (Spells : List ℕ → V → Type 0) (s : Spelling format Spells) (text : List ℕ)
    → IsShort format Spells text → (fields : List Field) × Reads format [] text fields short
short-reads {V} {F} format Spells s text h = let z = some_reading format s.four text in by_reading z.0 z.1 z.2
  where
    by_reading : (fields : List Field) (end : End F) → Reads format [] text fields end
        → (fields : List Field) × Reads format [] text fields short
    by_reading fields whole r = let z = reads-begins format Spells s text fields r in absurd (h.no_value (fields_len fields) z.0 z.1)
    by_reading fields (bad place fault) r =
        absurd (h.no_fault (fields_len fields + place) fault (reads-stands format s.four text fields place fault r))
    by_reading fields short r = (fields, r)

-- ---- longer texts

-- A text that begins with a spelling goes on beginning with it.
pub begins-longer : {V : Type 0} (Spells : List ℕ → V → Type 0) (text more : List ℕ) (used : ℕ) (v : V) → Begins Spells text used v
    → Begins Spells (text ++ more) used v
begins-longer {V} Spells text more used v b = record {
  within = omega (arith, b.within, length-append text more);
  spelled = subst (λ (x : List ℕ). Spells x v) (sym (take-append-le used text more b.within)) b.spelled;
}

-- A spelling begins each text that it is a prefix of.
pub spells-begins : {V : Type 0} (Spells : List ℕ → V → Type 0) (text more : List ℕ) (v : V) → Spells text v
    → Begins Spells (text ++ more) (length text) v
spells-begins {V} Spells text more v s = record {
  within = omega (arith, length-append text more);
  spelled = subst (λ (x : List ℕ). Spells x v) (sym (take_at text more (length text) refl)) s;
}

whole_begins : {V : Type 0} (Spells : List ℕ → V → Type 0) (text : List ℕ) (v : V) → Spells text v → Begins Spells text (length text) v
whole_begins {V} Spells text v s = record {
  within = omega arith;
  spelled = subst (λ (x : List ℕ). Spells x v) (sym (take_all (length text) text (omega arith))) s;
}

-- No spelling is a proper prefix of another.
pub no_longer_spelling : {V F : Type 0} (format : Format F) (Spells : List ℕ → V → Type 0) (s : Spelling format Spells)
    (text more : List ℕ) (v w : V) → Spells text v → Spells (text ++ more) w → more ≡ []
no_longer_spelling format Spells s text more v w a b =
    let z = one_value format Spells s (text ++ more) (length text) (length (text ++ more)) v w (spells-begins Spells text more v a)
    (whole_begins Spells (text ++ more) w b) in
    nil_from_length more (omega (arith, z.0, length-append text more))

-- A spelling has one value.
pub one_meaning : {V F : Type 0} (format : Format F) (Spells : List ℕ → V → Type 0) (s : Spelling format Spells) (text : List ℕ)
    (v w : V) → Spells text v → Spells text w → v ≡ w
one_meaning format Spells s text v w a b =
    (one_value format Spells s text (length text) (length text) v w (whole_begins Spells text v a) (whole_begins Spells text w b)).1

-- A proper prefix of a spelling is short.
pub cut_is_short : {V F : Type 0} (format : Format F) (Spells : List ℕ → V → Type 0) (s : Spelling format Spells)
    (text more : List ℕ) (v : V) → Spells (text ++ more) v → (more ≡ [] → ⊥) → IsShort format Spells text
cut_is_short format Spells s text more v b some =
    let all = whole_begins Spells (text ++ more) v b in
    elim (one_of_three format Spells s text) [
      | inl t ↦
          let z = one_value format Spells s (text ++ more) t.0 (length (text ++ more)) t.1 v
          (begins-longer Spells text more t.0 t.1 t.2) all in
          absurd (some (nil_from_length more (omega (arith, z.0, t.2.within, length-append text more))))
      | inr (inl t) ↦ absurd (spelled_or_fault format Spells s (text ++ more) (length (text ++ more)) t.0 v t.1 all
          (stands-longer format s.four text more t.0 t.1 t.2))
      | inr (inr t) ↦ t
    ]
