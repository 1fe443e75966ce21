-- What the linker knows before it places definitions.
use Rattle.std.proofs.Common.{◌≡◌, ℕ, suc, ◌+◌, ◌<◌, Bool, true, false, cond, List, [], ◌∷◌, ◌++◌, length, take, drop, get_or, Option, Some}
use Rattle.std.proofs.Common.{None, Result, Ok, Err, refl, ap, sym, ◌∙◌, subst, add-one}
use Rattle.std.specs.Str.{bytes_eq}
use Rattle.std.proofs.lemmas.List.{drop_more, take_more, append-nil, length-append, length-map}
use Rattle.sample_lang.specs.declared.program.Item.{Item}
use Rattle.sample_lang.specs.declared.program.Item.TheVariants.{Extern, Def}
use Rattle.sample_lang.specs.Names.{is_named, name_of}
use Rattle.sample_linker.specs.declared.kind.Kind.TheVariants.{Object}
use Rattle.sample_linker.specs.declared.name_table.NameTable.{NameTable}
use Rattle.sample_linker.specs.declared.faults.LinkFault.TheVariants.{BadObject, Doubled, Unresolved, Circular}
use Rattle.sample_linker.specs.declared.faults.LinkStop.{LinkStop}
use Rattle.sample_linker.specs.declared.faults.LinkStop.TheVariants.{Fault, Memory}
use Rattle.sample_linker.specs.Files.{file_items, then_file, objects_items}
use Rattle.sample_linker.specs.Links.{is_definition, definitions, doubled, unresolved}
use Rattle.sample_linker.specs.Indexes.{Indexes, names_of}
use Rattle.sample_linker.specs.Reads.{Lists}
use Rattle.sample_linker.specs.Tables.{place_in}
use Rattle.sample_linker.proofs.Places.{indexes_more, named_any, names-append}
use Rattle.sample_linker.specs.Stops.{IsFileStop, IsObjectStop, IsNamedStop, IsDoubledStop, IsUnresolvedStop}

-- ---- objects

abbrev Then : List Item → ℕ → List (List ℕ) → Result (List Item) ℕ → Result (List Item) (ℕ × ℕ)
Then items file objects read = then_file file read (λ more. objects_items (items ++ more) (suc file) objects)

object_by : (items : List Item) (file : ℕ) (objects : List (List ℕ)) (i : ℕ) (object : List ℕ) (read : Result (List Item) ℕ)
    → i < length objects → object ≡ get_or objects i object → file_items Object object ≡ read
    → objects_items items file (drop i objects) ≡ Then items file (drop (i + 1) objects) read
object_by items file objects i object read lt is e =
    ap (objects_items items file) (drop_more objects i object lt)
    ∙ ap (Then items file (drop (i + 1) objects)) (ap (file_items Object) (sym is) ∙ e)

pub object_more : (items : List Item) (file : ℕ) (objects : List (List ℕ)) (i : ℕ) (object : List ℕ) (more : List Item)
    → i < length objects → object ≡ get_or objects i object → file_items Object object ≡ Ok more
    → objects_items items file (drop i objects) ≡ objects_items (items ++ more) (file + 1) (drop (i + 1) objects)
object_more items file objects i object more lt is e =
    object_by items file objects i object (Ok more) lt is e
    ∙ ap (λ n. objects_items (items ++ more) n (drop (i + 1) objects)) (sym (add-one file))

pub object_stop : (items : List Item) (file : ℕ) (objects : List (List ℕ)) (i : ℕ) (object : List ℕ) (stop : LinkStop)
    (whole : Result (List Item) (ℕ × ℕ)) → i < length objects → object ≡ get_or objects i object
    → whole ≡ objects_items items file (drop i objects) → IsFileStop file (file_items Object object) stop → IsObjectStop whole stop
object_stop items file objects i object (Fault (BadObject there line)) whole lt is w h =
    w ∙ object_by items file objects i object (Err line) lt is h.1 ∙ ap (λ n. Err (n, line)) (sym h.0)
object_stop items file objects i object (Fault (Doubled name)) whole lt is w h = h
object_stop items file objects i object (Fault (Unresolved name)) whole lt is w h = h
object_stop items file objects i object (Fault (Circular names)) whole lt is w h = h
object_stop items file objects i object Memory whole lt is w h = tt

-- ---- definitions

definitions-append : (is js : List Item) → definitions (is ++ js) ≡ definitions is ++ definitions js
definitions-append [] js = refl
definitions-append (Extern name ∷ is) js = definitions-append is js
definitions-append (Def name code ∷ is) js = ap (λ ds. Def name code ∷ ds) (definitions-append is js)

one_definition : (item : Item) (items : List Item) → is_definition item ≡ true → definitions (item ∷ items) ≡ item ∷ definitions items
one_definition item items h = ap (λ b. cond b (item ∷ definitions items) (definitions items)) h

no_definition : (item : Item) (items : List Item) → is_definition item ≡ false → definitions (item ∷ items) ≡ definitions items
no_definition item items h = ap (λ b. cond b (item ∷ definitions items) (definitions items)) h

-- how far the definitions were placed
pub record PlacedTo (table : NameTable) (items : List Item) (i : ℕ) : Type 0 where
  pub same : doubled [] (definitions items) ≡ doubled (definitions (take i items)) (definitions (drop i items))
  pub lists : Lists table (definitions (take i items))

pub placed_none : (table : NameTable) (items : List Item) → Lists table [] → PlacedTo table items 0
placed_none table items h = record { same = refl; lists = h }

placed_def_step : (items : List Item) (i : ℕ) (item : Item) → i < length items → item ≡ get_or items i item → is_definition item ≡ true
    → doubled (definitions (take i items)) (definitions (drop i items)) ≡ cond (is_named (definitions (take i items)) (name_of item))
    (Some (name_of item)) (doubled (definitions (take i items) ++ item ∷ []) (definitions (drop (i + 1) items)))
placed_def_step items i item lt is d =
    let here : drop i items ≡ item ∷ drop (i + 1) items = drop_more items i item lt ∙ ap (λ x. x ∷ drop (i + 1) items) (sym is) in
    ap (λ ds. doubled (definitions (take i items)) ds) (ap definitions here ∙ one_definition item (drop (i + 1) items) d)

front_is : (items : List Item) (i : ℕ) (item : Item) → i < length items → item ≡ get_or items i item
    → definitions (take (i + 1) items) ≡ definitions (take i items) ++ definitions (item ∷ [])
front_is items i item lt is =
    ap definitions (take_more items i item lt ∙ ap (λ x. take i items ++ x ∷ []) (sym is)) ∙ definitions-append (take i items) (item ∷ [])

pub placed_def : (table new : NameTable) (items : List Item) (i : ℕ) (item : Item) → i < length items → item ≡ get_or items i item
    → is_definition item ≡ true → PlacedTo table items i
    → ((is_named (definitions (take i items)) (name_of item) ≡ false) × Lists new (definitions (take i items) ++ item ∷ []))
    → PlacedTo new items (i + 1)
placed_def table new items i item lt is d p h =
    let front : definitions (take (i + 1) items) ≡ definitions (take i items) ++ item ∷ [] = front_is items i item lt is
    ∙ ap (λ ds. definitions (take i items) ++ ds) (one_definition item [] d) in
    record {
      same = p.same ∙ placed_def_step items i item lt is d
          ∙ ap (λ b. cond b (Some (name_of item))
          (doubled (definitions (take i items) ++ item ∷ []) (definitions (drop (i + 1) items)))) h.0
          ∙ ap (λ ds. doubled ds (definitions (drop (i + 1) items))) (sym front);
      lists = subst (Lists new) (sym front) h.1;
    }

pub placed_need : (table : NameTable) (items : List Item) (i : ℕ) (item : Item) → i < length items → item ≡ get_or items i item
    → is_definition item ≡ false → PlacedTo table items i → PlacedTo table items (i + 1)
placed_need table items i item lt is d p =
    let here : drop i items ≡ item ∷ drop (i + 1) items = drop_more items i item lt ∙ ap (λ x. x ∷ drop (i + 1) items) (sym is) in
    let rest : definitions (drop i items) ≡ definitions (drop (i + 1) items) = ap definitions here
    ∙ no_definition item (drop (i + 1) items) d in
    let front : definitions (take (i + 1) items) ≡ definitions (take i items) =
    front_is items i item lt is ∙ ap (λ ds. definitions (take i items) ++ ds) (no_definition item [] d)
    ∙ append-nil (definitions (take i items)) in
    record {
      same = p.same ∙ ap (λ ds. doubled (definitions (take i items)) ds) rest
          ∙ ap (λ ds. doubled ds (definitions (drop (i + 1) items))) (sym front);
      lists = subst (Lists table) (sym front) p.lists;
    }

pub placed_stop : (table : NameTable) (items : List Item) (i : ℕ) (item : Item) (stop : LinkStop) → i < length items
    → item ≡ get_or items i item → is_definition item ≡ true → PlacedTo table items i
    → IsNamedStop (definitions (take i items)) (name_of item) stop → IsDoubledStop (doubled [] (definitions items)) stop
placed_stop table items i item (Fault (Doubled name)) lt is d p h =
    p.same ∙ placed_def_step items i item lt is d
    ∙ ap (λ b. cond b (Some (name_of item)) (doubled (definitions (take i items) ++ item ∷ []) (definitions (drop (i + 1) items)))) h.1
    ∙ ap (λ (n : List ℕ). Some n) (sym h.0)
placed_stop table items i item (Fault (BadObject file line)) lt is d p h = h
placed_stop table items i item (Fault (Unresolved name)) lt is d p h = h
placed_stop table items i item (Fault (Circular names)) lt is d p h = h
placed_stop table items i item Memory lt is d p h = tt

-- the table has the places of the definitions so far, as many as were counted
pub record IndexedTo (table : NameTable) (place : ℕ) (items : List Item) (i : ℕ) : Type 0 where
  pub indexes : Indexes table (names_of (definitions (take i items)))
  pub count : place ≡ length (definitions (take i items))

pub indexed_def : (table new : NameTable) (place : ℕ) (items : List Item) (i : ℕ) (item : Item) → i < length items
    → item ≡ get_or items i item → is_definition item ≡ true
    → IndexedTo table place items i → is_named (definitions (take i items)) (name_of item) ≡ false
    → ((other : List ℕ) → place_in new other ≡ cond (bytes_eq (name_of item) other) (Some place) (place_in table other))
    → IndexedTo new (place + 1) items (i + 1)
indexed_def table new place items i item lt is d h fresh updates =
    let before : List Item = definitions (take i items) in
    let front : definitions (take (i + 1) items) ≡ before ++ item ∷ [] = front_is items i item lt is
    ∙ ap (λ ds. before ++ ds) (one_definition item [] d) in
    record {
      indexes = subst (λ ds. Indexes new (names_of ds)) (sym front)
          (subst (Indexes new) (sym (names-append before (item ∷ [])))
          (indexes_more table new (names_of before) (name_of item) place h.indexes (sym (named_any before (name_of item)) ∙ fresh)
          (h.count ∙ sym (length-map before name_of)) updates));
      count = ap (λ n. n + 1) h.count ∙ sym (length-append before (item ∷ [])) ∙ ap length (sym front);
    }

pub indexed_need : (table : NameTable) (place : ℕ) (items : List Item) (i : ℕ) (item : Item) → i < length items
    → item ≡ get_or items i item → is_definition item ≡ false
    → IndexedTo table place items i → IndexedTo table place items (i + 1)
indexed_need table place items i item lt is d h =
    let before : List Item = definitions (take i items) in
    let front : definitions (take (i + 1) items) ≡ before = front_is items i item lt is ∙ ap (λ ds. before ++ ds) (no_definition item [] d)
    ∙ append-nil before in
    record {
      indexes = subst (λ ds. Indexes table (names_of ds)) (sym front) h.indexes;
      count = h.count ∙ ap length (sym front);
    }

-- ---- needs

need_by : (defined : List Item) (item : Item) (items : List Item) → unresolved defined (item ∷ []) ≡ None
    → unresolved defined (item ∷ items) ≡ unresolved defined items
need_by defined (Def name code) items h = refl
need_by defined (Extern name) items h = met_by (is_named defined name) name (unresolved defined items) h
  where
    met_by : (b : Bool) (name : List ℕ) (rest : Option (List ℕ)) → cond b None (Some name) ≡ None → cond b rest (Some name) ≡ rest
    met_by true name rest h = refl
    met_by false name rest h = cc

need_some : (defined : List Item) (item : Item) (items : List Item) (found : List ℕ) → unresolved defined (item ∷ []) ≡ Some found
    → unresolved defined (item ∷ items) ≡ Some found
need_some defined (Def name code) items found h = cc
need_some defined (Extern name) items found h = open_by (is_named defined name) name (unresolved defined items) found h
  where
    open_by : (b : Bool) (name : List ℕ) (rest : Option (List ℕ)) (found : List ℕ) → cond b None (Some name) ≡ Some found
        → cond b rest (Some name) ≡ Some found
    open_by true name rest found h = cc
    open_by false name rest found h = h

need_here : (defined items : List Item) (i : ℕ) (item : Item) → i < length items → item ≡ get_or items i item
    → unresolved defined (drop i items) ≡ unresolved defined (item ∷ drop (i + 1) items)
need_here defined items i item lt is = ap (unresolved defined) (drop_more items i item lt ∙ ap (λ x. x ∷ drop (i + 1) items) (sym is))

pub need_more : (defined items : List Item) (i : ℕ) (item : Item) → i < length items → item ≡ get_or items i item
    → unresolved defined (item ∷ []) ≡ None
    → unresolved defined (drop i items) ≡ unresolved defined (drop (i + 1) items)
need_more defined items i item lt is h = need_here defined items i item lt is ∙ need_by defined item (drop (i + 1) items) h

pub need_stop : (defined items : List Item) (i : ℕ) (item : Item) (stop : LinkStop) (whole : Option (List ℕ)) → i < length items
    → item ≡ get_or items i item → whole ≡ unresolved defined (drop i items)
    → IsUnresolvedStop (unresolved defined (item ∷ [])) stop → IsUnresolvedStop whole stop
need_stop defined items i item (Fault (Unresolved name)) whole lt is w h = w ∙ need_here defined items i item lt is
    ∙ need_some defined item (drop (i + 1) items) name h
need_stop defined items i item (Fault (BadObject file line)) whole lt is w h = h
need_stop defined items i item (Fault (Doubled name)) whole lt is w h = h
need_stop defined items i item (Fault (Circular names)) whole lt is w h = h
need_stop defined items i item Memory whole lt is w h = tt
