-- At most one fault stands, and it stands exactly where the rows make no table.
use Rattle.std.proofs.Common.{◌≡◌, ℕ, ◌<◌, ◌≤◌, Bool, true, false, leb, ltb, List, [], length, refl, sym, ◌∙◌, ap, subst, arith}
use Rattle.std.proofs.lemmas.Bool.{and_parts, and_from}
use Rattle.std.proofs.lemmas.Bool.Decides.{nat_tests}
use Rattle.std.proofs.lemmas.List.Elements.{All-from_get_or}
use Rattle.std.proofs.lemmas.List.Sums.{list_all-from_AllPass}
use Rattle.option_table.specs.declared.row.Form.TheVariants as form
use Rattle.option_table.specs.declared.row.Effect.TheVariants as effect
use Rattle.option_table.specs.declared.row.OptionRow.{OptionRow}
use Rattle.option_table.specs.declared.fault.TableFault.{TableFault}
use Rattle.option_table.specs.declared.fault.TableFault.TheVariants.{Doubled, Short}
use Rattle.option_table.specs.Rows.{row, row_at, is_long, is_table}
use Rattle.option_table.specs.Faults.{AreAlike, AreApart, AreFirstAlike, IsFirstShort, TableFaultStands}
use Rattle.option_table.proofs.Distinct.{same_place, distinct_from}
use Rattle.option_table.proofs.Searching.{long_at}

-- no fault stands in rows that make a table
pub table_has_none : (rows : List OptionRow) (fault : TableFault) → is_table rows ≡ true → TableFaultStands rows fault → ⊥
table_has_none rows (Doubled first second) table stands =
    let alike = stands.alike in
    omega (
      arith,
      alike.before,
      same_place rows first second (and_parts _ _ table).0 (omega (arith, alike.before, alike.within))
          alike.within alike.alike,
    )
table_has_none rows (Short at) table stands = omega (arith, stands.short, long_at rows at table stands.within)

-- rows that are apart and long make a table
pub table_from : (rows : List OptionRow) → AreApart rows → ((k : ℕ) → k < length rows → 2 ≤ length (row_at rows k).spelling)
    → is_table rows ≡ true
table_from rows apart long =
    and_from _ _ (distinct_from rows apart)
    (list_all-from_AllPass _ rows
    (All-from_get_or (λ r. is_long r ≡ true) rows (row [] form.None effect.Keep) (λ k within. le_is _ (long k within))))
  where
    le_is : (n : ℕ) → 2 ≤ n → leb 2 n ≡ true
    le_is n h = grind (arith, nat_tests)

-- of two rows alike with a third, the later two are alike
first_once : (rows : List OptionRow) (i j second : ℕ) → AreFirstAlike rows i second → AreAlike rows j second → i < j → ⊥
first_once rows i j second a b less =
    omega (
      arith,
      a.least i j record {
        before = less;
        within = omega (arith, b.before, b.within);
        alike = a.alike.alike ∙ sym b.alike;
      },
      b.before,
    )

-- of two numbers of which neither is less
neither_less : (m n : ℕ) → (m < n → ⊥) → (n < m → ⊥) → m ≡ n
neither_less m n up down = by_tests (ltb m n) (ltb n m) refl refl
  where
    by_tests : (s t : Bool) → ltb m n ≡ s → ltb n m ≡ t → m ≡ n
    by_tests true t is also = absurd (up (grind (arith, nat_tests)))
    by_tests false true is also = absurd (down (grind (arith, nat_tests)))
    by_tests false false is also = grind (arith, nat_tests)

same_second : (rows : List OptionRow) (i s j t : ℕ) → AreFirstAlike rows i s → AreFirstAlike rows j t → s ≡ t
same_second rows i s j t a b = omega (arith, a.least j t b.alike, b.least i s a.alike)

same_first : (rows : List OptionRow) (i j second : ℕ) → AreFirstAlike rows i second → AreFirstAlike rows j second → i ≡ j
same_first rows i j second a b = neither_less i j (first_once rows i j second a b.alike) (first_once rows j i second b a.alike)

same_short : (rows : List OptionRow) (k l : ℕ) → IsFirstShort rows k → IsFirstShort rows l → k ≡ l
same_short rows k l a b = neither_less k l (λ less. omega (arith, b.least k less, a.short)) (λ less. omega (arith, a.least l less, b.short))

-- at most one fault stands
pub one_fault : (rows : List OptionRow) (a b : TableFault) → TableFaultStands rows a → TableFaultStands rows b → a ≡ b
one_fault rows (Doubled i s) (Doubled j t) a b =
    let same = same_second rows i s j t a b in
    ap (λ n. Doubled i n) same ∙ ap (λ n. Doubled n t) (same_first rows i j t (subst (λ n. AreFirstAlike rows i n) same a) b)
one_fault rows (Doubled i s) (Short k) a b = absurd (b.apart i s a.alike)
one_fault rows (Short k) (Doubled j t) a b = absurd (a.apart j t b.alike)
one_fault rows (Short k) (Short l) a b = ap Short (same_short rows k l a b)
