-- Linking the objects of sources keeps its promise.
use Rattle.std.proofs.Common.{◌≡◌, ℕ, suc, Bool, true, false, List, [], ◌∷◌, ◌++◌, map, Option, Some, None}
use Rattle.std.proofs.Common.{Result, Ok, refl, ap, sym, ◌∙◌, subst, inl, inr, ⊎_elim, append_assoc}
use Rattle.std.specs.Prelude.{All, MatchOption, MatchResult, MatchBool}
use Rattle.std.proofs.lemmas.List.{append-nil}
use Rattle.std.proofs.lemmas.List.Elements.{All-head, All-tail}
use Rattle.sample_lang.specs.declared.program.Part.{Part}
use Rattle.sample_lang.specs.declared.program.Item.{Item}
use Rattle.sample_lang.specs.declared.program.Item.TheVariants.{Extern, Def}
use Rattle.sample_lang.specs.Names.{is_named, name_of, code_of}
use Rattle.sample_lang.specs.Sources.{SourceOf}
use Rattle.sample_lang.specs.Values.{Numbers, HasValue, ItemsHold}
use Rattle.sample_lang.proofs.CodeValues.{forms_items, items_forms}
use Rattle.sample_lang.proofs.Deciding.{one_source}
use Rattle.sample_linker.specs.declared.kind.Kind.TheVariants.{Object, Image}
use Rattle.sample_linker.specs.declared.faults.LinkFault.{LinkFault}
use Rattle.sample_linker.specs.declared.faults.LinkFault.TheVariants.{BadObject, Doubled, Unresolved, Circular}
use Rattle.sample_linker.specs.declared.faults.Linked.{Linked}
use Rattle.sample_linker.specs.declared.faults.Linked.TheVariants as linked
use Rattle.sample_linker.specs.declared.running.RunFault.TheVariants.{BadImage, NoMain}
use Rattle.sample_linker.specs.declared.running.Value.{Value}
use Rattle.sample_linker.specs.declared.running.Value.TheVariants as values
use Rattle.sample_compiler.specs.Objects.{items_text}
use Rattle.sample_linker.specs.Files.{file_items, then_file, objects_items}
use Rattle.sample_linker.specs.Right.{AreRightItems}
use Rattle.sample_linker.specs.Orders.{GoRound, IsImageOrder}
use Rattle.sample_linker.specs.Links.{definitions, doubled, unresolved, image_of, OrderedTo, ItemsLinkTo}
use Rattle.sample_linker.specs.Values.{main_name, MainIs, ItemsHaveValue, IsValue}
use Rattle.sample_linker.specs.Sources.{AreSources, FitsText, FitsTexts, FitsSources, UsesItself, CanLink, FitOnce, MainFits, Promised}
use Rattle.sample_linker.specs.Sources.{together, LinksSources}
use Rattle.sample_linker.proofs.Spelling.{file_reads}
use Rattle.sample_linker.proofs.SourceItems.{source_says}
use Rattle.sample_linker.proofs.Numbers.{agree_at, holding_small, holding_agree, ItemsHold-append}
use Rattle.sample_linker.proofs.Placed.{image_says, definitions_right, order_right, order_declared, order_holds}
use Rattle.sample_linker.proofs.Members.{unlike, Member, named_member, one_member, order_straight, order_members, order_named, member_named}

no_def : {P : Type 0} (other name : List ℕ) (code : List Part) → Extern other ≡ Def name code → P
no_def other name code e = cc

holds_at : (numbers : Numbers) (items : List Item) (name : List ℕ) (code : List Part) → ItemsHold numbers items
    → Member (Def name code) items → HasValue numbers code (numbers name)
holds_at numbers [] name code h m = absurd m
holds_at numbers (Extern other ∷ items) name code h m = ⊎_elim (λ here. no_def other name code here)
    (λ later. holds_at numbers items name code h later) m
holds_at numbers (Def other body ∷ items) name code h m =
    ⊎_elim (λ here. subst (λ i. HasValue numbers (code_of i) (numbers (name_of i))) here h.0)
    (λ later. holds_at numbers items name code h.1 later) m

-- what holds of the order holds of each of these, which are among the definitions
all_hold : (numbers : Numbers) (defined order part : List Item) → doubled [] defined ≡ None → IsImageOrder defined [] order
    → ItemsHold numbers order
    → ((item : Item) → Member item part → Member item defined) → ((item : Item) → Member item part → is_named order (name_of item) ≡ true)
    → ItemsHold numbers part
all_hold numbers defined order [] once o h sub named = tt
all_hold numbers defined order (Extern name ∷ part) once o h sub named =
    all_hold numbers defined order part once o h (λ item m. sub item (inr m)) (λ item m. named item (inr m))
all_hold numbers defined order (Def name code ∷ part) once o h sub named =
    let item : Item = Def name code in
    let found = named_member order name (named item (inl refl)) in
    let same : found.0 ≡ item =
    one_member [] defined found.0 item once (order_members defined [] order found.0 o found.1) (sub item (inl refl)) found.2 in (
      holds_at numbers order name code h (subst (λ i. Member i order) same found.1),
      all_hold numbers defined order part once o h (λ item m. sub item (inr m)) (λ item m. named item (inr m)),
    )

all_member : (P : Item → Type 0) (xs : List Item) (x : Item) → All P xs → Member x xs → P x
all_member P [] x h m = absurd m
all_member P (y ∷ ys) x h m =
    ⊎_elim (λ here. subst P here (All-head P y ys h)) (λ later. all_member P ys x (All-tail P y ys h) later) m

definitions_hold : (numbers : Numbers) (defined order : List Item) → doubled [] defined ≡ None → IsImageOrder defined [] order
    → ItemsHold numbers order → ItemsHold numbers defined
definitions_hold numbers defined order once o h =
    all_hold numbers defined order defined once o h (λ item m. m)
    (λ item m. all_member (λ definition. is_named order (name_of definition) ≡ true) defined item (order_named defined [] order o) m)

-- ---- definitions and items

defined_hold : (numbers : Numbers) (items : List Item) → ItemsHold numbers items → ItemsHold numbers (definitions items)
defined_hold numbers [] h = tt
defined_hold numbers (Extern name ∷ items) h = defined_hold numbers items h
defined_hold numbers (Def name code ∷ items) h = (h.0, defined_hold numbers items h.1)

items_hold : (numbers : Numbers) (items : List Item) → ItemsHold numbers (definitions items) → ItemsHold numbers items
items_hold numbers [] h = tt
items_hold numbers (Extern name ∷ items) h = items_hold numbers items h
items_hold numbers (Def name code ∷ items) h = (h.0, items_hold numbers items h.1)

part_holds : (numbers : Numbers) (is js : List Item) → ItemsHold numbers (is ++ js) → ItemsHold numbers is × ItemsHold numbers js
part_holds numbers [] js h = (tt, h)
part_holds numbers (Extern name ∷ is) js h = part_holds numbers is js h
part_holds numbers (Def name code ∷ is) js h = let rest = part_holds numbers is js h.1 in ((h.0, rest.0), rest.1)

-- ---- sources

objects_read : (texts : List (List ℕ)) (files : List (List Item)) (earlier : List Item) (at : ℕ) → AreSources texts files
    → objects_items earlier at (map items_text files) ≡ Ok (earlier ++ together files)
objects_read [] [] earlier at h = ap (λ (is : List Item). Ok is) (sym (append-nil earlier))
objects_read [] (items ∷ files) earlier at h = absurd h
objects_read (text ∷ texts) [] earlier at h = absurd h
objects_read (text ∷ texts) (items ∷ files) earlier at h =
    ap (λ read. then_file at read (λ more. objects_items (earlier ++ more) (suc at) (map items_text files)))
    (file_reads Object (items_text items) items (source_says text items h.0))
    ∙ objects_read texts files (earlier ++ items) (suc at) h.1
    ∙ ap (λ (is : List Item). Ok is) (append_assoc earlier items (together files))

right_both : (is js : List Item) → AreRightItems Object is → AreRightItems Object js → AreRightItems Object (is ++ js)
right_both [] js h k = k
right_both (i ∷ is) js h k = (h.0, right_both is js h.1 k)

all_right : (texts : List (List ℕ)) (files : List (List Item)) → AreSources texts files → AreRightItems Object (together files)
all_right [] [] h = tt
all_right [] (items ∷ files) h = absurd h
all_right (text ∷ texts) [] h = absurd h
all_right (text ∷ texts) (items ∷ files) h = right_both items (together files) (source_says text items h.0).right
    (all_right texts files h.1)

text_holds : (numbers : Numbers) (text : List ℕ) (items : List Item) → SourceOf text items → FitsText numbers text → ItemsHold numbers items
text_holds numbers text items source fits =
    subst (ItemsHold numbers) (sym fits.1.meant ∙ one_source text fits.0 items fits.1 source) (forms_items numbers fits.1.forms fits.2)

texts_hold : (numbers : Numbers) (texts : List (List ℕ)) (files : List (List Item)) → AreSources texts files → FitsTexts numbers texts
    → ItemsHold numbers (together files)
texts_hold numbers [] [] h f = tt
texts_hold numbers [] (items ∷ files) h f = absurd h
texts_hold numbers (text ∷ texts) [] h f = absurd h
texts_hold numbers (text ∷ texts) (items ∷ files) h f =
    ItemsHold-append numbers items (together files) (text_holds numbers text items h.0 f.0) (texts_hold numbers texts files h.1 f.1)

texts_fit : (numbers : Numbers) (texts : List (List ℕ)) (files : List (List Item)) → AreSources texts files
    → ItemsHold numbers (together files) → FitsTexts numbers texts
texts_fit numbers [] [] h k = tt
texts_fit numbers [] (items ∷ files) h k = absurd h
texts_fit numbers (text ∷ texts) [] h k = absurd h
texts_fit numbers (text ∷ texts) (items ∷ files) h k =
    let parts = part_holds numbers items (together files) k in
    ((items, h.0, items_forms numbers h.0.forms (subst (ItemsHold numbers) h.0.meant parts.0)), texts_fit numbers texts files h.1 parts.1)

-- ---- the promise

-- the order's numbers are those of the definitions
fit_once : (texts : List (List ℕ)) (files : List (List Item)) (order : List Item) → AreSources texts files
    → doubled [] (definitions (together files)) ≡ None
    → IsImageOrder (definitions (together files)) [] order → FitOnce texts (together files)
fit_once texts files order sources once o =
    let items : List Item = together files in
    let defined : List Item = definitions items in
    let right = order_right Image defined [] order (definitions_right items (all_right texts files sources)) o in
    let declared = order_declared defined [] order o in
    let found = holding_small order declared right in
    record {
      some = (
        found.0,
        record {
          small = found.1;
          solves = texts_fit found.0 texts files sources (items_hold found.0 items (definitions_hold found.0 defined order once o found.2));
        },
      );
      one = λ a b name fa fb named.
          let holds_a = order_holds a defined [] order (defined_hold a items (texts_hold a texts files sources fa.solves)) o in
          let holds_b = order_holds b defined [] order (defined_hold b items (texts_hold b texts files sources fb.solves)) o in
          let member = named_member defined name named in
          let placed : is_named order name ≡ true =
          subst (λ n. is_named order n ≡ true) member.2
          (all_member (λ definition. is_named order (name_of definition) ≡ true) defined member.0
          (order_named defined [] order o) member.1) in
          agree_at a b order name (holding_agree a b order declared right holds_a holds_b) placed;
    }

defined_placed : (defined order : List Item) (name : List ℕ) → IsImageOrder defined [] order → is_named defined name ≡ true
    → is_named order name ≡ true
defined_placed defined order name o h =
    let member = named_member defined name h in
    subst (λ n. is_named order n ≡ true) member.2
    (all_member (λ definition. is_named order (name_of definition) ≡ true) defined member.0 (order_named defined [] order o) member.1)

no_member : (defined order : List Item) (name : List ℕ) (b : Bool) → is_named defined name ≡ b → is_named order name ≡ false
    → IsImageOrder defined [] order → is_named defined name ≡ false
no_member defined order name false e h o = e
no_member defined order name true e h o = unlike (sym (defined_placed defined order name o e) ∙ h)

placed_defined : (defined order : List Item) (name : List ℕ) → is_named order name ≡ true → IsImageOrder defined [] order
    → is_named defined name ≡ true
placed_defined defined order name h o =
    let found = named_member order name h in
    member_named defined found.0 name (order_members defined [] order found.0 o found.1) found.2

-- the value of an order is the number of `main` in what fits
abbrev FromOrder : List (List ℕ) → List (List Item) → List Item → Type 0
FromOrder texts files order = (AreSources texts files) × (IsImageOrder (definitions (together files)) [] order)

order_fits : (texts : List (List ℕ)) (files : List (List Item)) (order : List Item) (numbers : Numbers) → FromOrder texts files order
    → FitsSources texts numbers → ItemsHold numbers order
order_fits texts files order numbers f fits =
    order_holds numbers (definitions (together files)) [] order
    (defined_hold numbers (together files) (texts_hold numbers texts files f.0 fits.solves)) f.1

order_fine : (texts : List (List ℕ)) (files : List (List Item)) (order : List Item) → FromOrder texts files order
    → AreRightItems Image order
order_fine texts files order f = order_right Image (definitions (together files)) [] order
    (definitions_right (together files) (all_right texts files f.0)) f.1

main_is : (texts : List (List ℕ)) (files : List (List Item)) (order : List Item) (value : Value) → FromOrder texts files order
    → is_named order main_name ≡ true → MainIs order value → MainFits texts (together files) value
main_is texts files order (values.Number n) f named m = (
  placed_defined (definitions (together files)) order main_name named f.1,
  λ fit fits.
      agree_at fit m.0 order main_name
      (holding_agree fit m.0 order (order_declared (definitions (together files)) [] order f.1) (order_fine texts files order f)
      (order_fits texts files order fit f fits) m.1) named
      ∙ sym m.2,
)
main_is texts files order (values.Fault fault) f named m = absurd m
main_is texts files order values.Memory f named m = absurd m

main_by : (texts : List (List ℕ)) (files : List (List Item)) (order : List Item) (value : Value) (b : Bool) → FromOrder texts files order
    → is_named order main_name ≡ b
    → MatchBool b (MainIs order value) (value ≡ values.Fault NoMain) → MainFits texts (together files) value
main_by texts files order value true f named h = main_is texts files order value f named h
main_by texts files order value false f named h =
    subst (MainFits texts (together files)) (sym h)
    (no_member (definitions (together files)) order main_name (is_named (definitions (together files)) main_name) refl named f.1)

image_reads : (texts : List (List ℕ)) (files : List (List Item)) (order : List Item) → FromOrder texts files order
    → file_items Image (image_of order) ≡ Ok order
image_reads texts files order f =
    file_reads Image (image_of order) order
    (image_says (definitions (together files)) order (definitions_right (together files) (all_right texts files f.0)) f.1)

abbrev ByItems : Value → Result (List Item) ℕ → Type 0
ByItems value read = MatchResult read (λ items. ItemsHaveValue items value) (λ line. value ≡ values.Fault (BadImage line))

run_fits : (texts : List (List ℕ)) (files : List (List Item)) (order : List Item) → FromOrder texts files order → (value : Value)
    → IsValue (image_of order) value → MainFits texts (together files) value
run_fits texts files order f values.Memory h = tt
run_fits texts files order f (values.Number n) h =
    main_by texts files order (values.Number n) (is_named order main_name) f refl
    (subst (ByItems (values.Number n)) (image_reads texts files order f) h)
run_fits texts files order f (values.Fault fault) h =
    main_by texts files order (values.Fault fault) (is_named order main_name) f refl
    (subst (ByItems (values.Fault fault)) (image_reads texts files order f) h)

image_kept : (texts : List (List ℕ)) (files : List (List Item)) (image : List ℕ) → AreSources texts files
    → doubled [] (definitions (together files)) ≡ None
    → unresolved (definitions (together files)) (together files) ≡ None → OrderedTo (definitions (together files)) (linked.Image image)
    → Promised texts (together files) (linked.Image image)
image_kept texts files image sources once met o =
    let defined : List Item = definitions (together files) in
    let from : FromOrder texts files o.0 = (sources, o.1) in (
      record {
        once = once;
        met = met;
        straight = order_straight defined [] o.0 once o.1 (λ name used h u. unlike (sym h))
            (λ name h round. unlike (sym h));
      },
      fit_once texts files o.0 sources once o.1,
      λ value h. run_fits texts files o.0 from value (subst (λ i. IsValue i value) o.2 h),
    )

round_not : (defined : List Item) (names : List (List ℕ)) → GoRound defined names → ((name : List ℕ) → UsesItself defined name → ⊥) → ⊥
round_not defined [] g s = g
round_not defined (name ∷ names) g s = s name (names, g)

fault_kept : (defined : List Item) (fault : LinkFault) → OrderedTo defined (linked.Fault fault)
    → ((name : List ℕ) → UsesItself defined name → ⊥) → ⊥
fault_kept defined (Circular names) o s = round_not defined names o.round s
fault_kept defined (BadObject file line) o s = o
fault_kept defined (Doubled name) o s = o
fault_kept defined (Unresolved name) o s = o

image_fault : {P : Type 0} (image : List ℕ) (fault : LinkFault) → linked.Image image ≡ linked.Fault fault → P
image_fault image fault e = cc

some_none : {P : Type 0} (name : List ℕ) → Some name ≡ None → P
some_none name e = cc

image_by : (texts : List (List ℕ)) (files : List (List Item)) (image : List ℕ) (twice needed : Option (List ℕ)) → AreSources texts files
    → doubled [] (definitions (together files)) ≡ twice → unresolved (definitions (together files)) (together files) ≡ needed
    → MatchOption twice (MatchOption needed (OrderedTo (definitions (together files)) (linked.Image image))
    (λ name. linked.Image image ≡ linked.Fault (Unresolved name)))
    (λ name. linked.Image image ≡ linked.Fault (Doubled name))
    → Promised texts (together files) (linked.Image image)
image_by texts files image None None sources d u h = image_kept texts files image sources d u h
image_by texts files image None (Some name) sources d u h = image_fault image (Unresolved name) h
image_by texts files image (Some name) needed sources d u h = image_fault image (Doubled name) h

fault_by : (files : List (List Item)) (fault : LinkFault) (twice needed : Option (List ℕ))
    → doubled [] (definitions (together files)) ≡ twice → unresolved (definitions (together files)) (together files) ≡ needed
    → MatchOption twice (MatchOption needed (OrderedTo (definitions (together files)) (linked.Fault fault))
    (λ name. linked.Fault fault ≡ linked.Fault (Unresolved name)))
    (λ name. linked.Fault fault ≡ linked.Fault (Doubled name))
    → CanLink (together files) → ⊥
fault_by files fault None None d u h can = fault_kept (definitions (together files)) fault h can.straight
fault_by files fault None (Some name) d u h can = some_none name (sym u ∙ can.met)
fault_by files fault (Some name) needed d u h can = some_none name (sym d ∙ can.once)

abbrev ByRead : Linked → Result (List Item) (ℕ × ℕ) → Type 0
ByRead answer read = MatchResult read (λ items. ItemsLinkTo items answer) (λ at. answer ≡ linked.Fault (BadObject at.0 at.1))

-- whatever linking the objects of sources answers keeps the promise
pub links_sources : LinksSources
links_sources texts files linked.Memory sources h = tt
links_sources texts files (linked.Image image) sources h =
    image_by texts files image _ _ sources refl refl (subst (ByRead (linked.Image image)) (objects_read texts files [] 1 sources) h)
links_sources texts files (linked.Fault fault) sources h =
    λ can. fault_by files fault _ _ refl refl (subst (ByRead (linked.Fault fault)) (objects_read texts files [] 1 sources) h) can
