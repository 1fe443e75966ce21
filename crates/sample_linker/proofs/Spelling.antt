-- Right items are read from their lines.
use Rattle.std.proofs.Common.{◌≡◌, ℕ, suc, ◌+◌, Bool, true, false, cond, List, [], ◌∷◌, ◌++◌, length, take, drop, Option, Some, None}
use Rattle.std.proofs.Common.{Result, Ok, refl, ap, sym, ◌∙◌, append_assoc, arith}
use Rattle.std.specs.Prelude.{not, codes, ◌&&◌}
use Rattle.std.specs.List.{list_all, flat_map, slice_split, position_or_len, before_first, after_first}
use Rattle.std.specs.Option.{option_map}
use Rattle.std.proofs.Math.Seq.{drop-append-add}
use Rattle.std.proofs.lemmas.Bool.{and_from}
use Rattle.std.proofs.lemmas.List.{append-nil, take_at}
use Rattle.std.proofs.lemmas.List.Splits.{slice_split_at}
use Rattle.sample_lang.specs.declared.program.Part.{Part}
use Rattle.sample_lang.specs.declared.program.Part.TheVariants.{Number, Name, Add, Sub, Mul}
use Rattle.sample_lang.specs.declared.program.Item.{Item}
use Rattle.sample_lang.specs.declared.program.Item.TheVariants.{Extern, Def}
use Rattle.sample_lang.specs.Names.{is_named, name_of, HaveNames, AreDeclared}
use Rattle.sample_lang.specs.Names as names
use Rattle.sample_linker.specs.declared.kind.Kind.{Kind}
use Rattle.sample_linker.specs.declared.kind.Kind.TheVariants.{Object, Image}
use Rattle.sample_compiler.specs.Objects.{code_part_text, item_line}
use Rattle.sample_linker.specs.Lines.{is_line_feed, is_space, heading, has_needs, is_name, leaves_one, code_of, def_item, need_item}
use Rattle.sample_linker.specs.Lines.{line_item}
use Rattle.sample_linker.specs.Files.{is_known, may_follow, following, go_on, lines_items, headed_items, file_items}
use Rattle.sample_linker.specs.Right.{IsRightItem, AreRightItems, AreRightParts, Says}
use Rattle.sample_linker.proofs.Splits.{split_some}
use Rattle.sample_linker.proofs.Words.{Clear, Clear-append, all_clear, name_is_clear, part_word, part_is, code_reads, code_clear}

-- ---- the first byte of a kind

cond_no : {X : Type 0} (b : Bool) (x y : X) → b ≡ false → cond b x y ≡ y
cond_no b x y h = ap (λ t. cond t x y) h

cond_yes : {X : Type 0} (b : Bool) (x y : X) → b ≡ true → cond b x y ≡ x
cond_yes b x y h = ap (λ t. cond t x y) h

at_clear : (p : ℕ → Bool) (xs ys : List ℕ) (y : ℕ) → Clear p xs → p y ≡ true → position_or_len p (xs ++ y ∷ ys) ≡ length xs
at_clear p [] ys y h k = ap (λ b. cond (not b) (1 + position_or_len p ys) 0) k
at_clear p (x ∷ xs) ys y h k =
    let more = at_clear p xs ys y h.1 k in
    ap (λ b. cond (not b) (1 + position_or_len p (xs ++ y ∷ ys)) 0) h.0 ∙ (omega (arith, more))

pub before_at : (p : ℕ → Bool) (xs ys : List ℕ) (y : ℕ) → Clear p xs → p y ≡ true → before_first p (xs ++ y ∷ ys) ≡ xs
before_at p xs ys y h k = ap (λ n. take n (xs ++ y ∷ ys)) (at_clear p xs ys y h k) ∙ take_at xs (y ∷ ys) (length xs) refl

pub after_at : (p : ℕ → Bool) (xs ys : List ℕ) (y : ℕ) → Clear p xs → p y ≡ true → after_first p (xs ++ y ∷ ys) ≡ ys
after_at p xs ys y h k = ap (λ n. drop (n + 1) (xs ++ y ∷ ys)) (at_clear p xs ys y h k) ∙ drop-append-add xs (y ∷ ys) 1

-- ---- lines

-- a line without its line feed
abbrev body_of : Item → List ℕ
body_of (Extern name) = codes "need " ++ name
body_of (Def name code) = codes "def " ++ name ++ flat_map code_part_text code

body_is : (item : Item) → item_line item ≡ body_of item ++ 10 ∷ []
body_is (Extern name) = refl
body_is (Def name code) = refl

body_clear : (kind : Kind) (item : Item) → IsRightItem kind item → Clear is_line_feed (body_of item)
body_clear kind (Extern name) h = (refl, (refl, (refl, (refl, (refl, (name_is_clear name h.1).1)))))
body_clear kind (Def name code) h = (
  refl,
  (
    refl,
    (
      refl,
      (
        refl,
        Clear-append is_line_feed name (flat_map code_part_text code) (name_is_clear name h.0).1 (code_clear code h.1),
      ),
    ),
  ),
)

abbrev def_by : List ℕ → List ℕ → Option Item
def_by name text = cond (is_name name) (option_map (λ code. Def name code) (code_of text)) None

def_reads : (name : List ℕ) (code : List Part) → is_name name ≡ true → AreRightParts code → leaves_one 0 code ≡ true
    → def_item (name ++ flat_map code_part_text code) ≡ Some (Def name code)
def_reads name [] h k l = cc
def_reads name (p ∷ ps) h k l =
    let rest : List ℕ = part_word p ++ flat_map code_part_text ps in
    let clear = (name_is_clear name h).0 in
    ap (λ t. def_item (name ++ (t ++ flat_map code_part_text ps))) (part_is p)
    ∙ ap (λ n. def_by n (after_first is_space (name ++ 32 ∷ rest))) (before_at is_space name rest 32 clear refl)
    ∙ ap (λ t. def_by name t) (after_at is_space name rest 32 clear refl)
    ∙ cond_yes (is_name name) _ _ h
    ∙ ap (option_map (λ code. Def name code)) (code_reads p ps k l)

line_reads : (kind : Kind) (item : Item) → IsRightItem kind item → line_item kind (body_of item) ≡ Some item
line_reads kind (Extern name) h =
    cond_yes (has_needs kind && true) (need_item name) None (and_from (has_needs kind) true h.0 refl) ∙ cond_yes (is_name name) _ _ h.1
line_reads kind (Def name code) h = def_reads name code h.0 h.1 h.2

-- ---- files

known : (items : List Item) (parts : List Part) → HaveNames items parts → list_all (is_known items) parts ≡ true
known items [] h = refl
known items (Number n ∷ parts) h = known items parts h
known items (Name name ∷ parts) h = and_from (is_named items name) (list_all (is_known items) parts) h.0 (known items parts h.1)
known items (Add ∷ parts) h = known items parts h
known items (Sub ∷ parts) h = known items parts h
known items (Mul ∷ parts) h = known items parts h

follows : (items : List Item) (item : Item) → is_named items (name_of item) ≡ false → HaveNames items (names.code_of item)
    → may_follow items item ≡ true
follows items item h k = and_from _ _ (ap not h) (known items (names.code_of item) k)

abbrev Rest : Kind → ℕ → List (List ℕ) → List Item → Result (List Item) ℕ
Rest kind at lines items = lines_items kind items at lines

lines_read : (kind : Kind) (earlier items : List Item) (at : ℕ) → AreRightItems kind items → AreDeclared earlier items
    → lines_items kind earlier at (slice_split is_line_feed (flat_map item_line items)) ≡ Ok (earlier ++ items)
lines_read kind earlier [] at h k = ap (λ (is : List Item). Ok is) (sym (append-nil earlier))
lines_read kind earlier (item ∷ items) at h k =
    let text : List ℕ = flat_map item_line items in
    let body : List ℕ = body_of item in
    let lined : item_line item ++ text ≡ body ++ 10 ∷ text = ap (λ t. t ++ text) (body_is item) ∙ append_assoc body (10 ∷ []) text in
    let some = split_some is_line_feed text in
    let cut : slice_split is_line_feed (item_line item ++ text) ≡ body ∷ some.0 ∷ some.1 =
    ap (slice_split is_line_feed) lined
    ∙ slice_split_at is_line_feed body 10 text (all_clear is_line_feed body (body_clear kind item h.0)) refl
    ∙ ap (λ ls. body ∷ ls) some.2 in
    let read : following earlier (line_item kind body) ≡ Some item =
    ap (following earlier) (line_reads kind item h.0) ∙ cond_yes (may_follow earlier item) _ _ (follows earlier item k.0 k.1) in
    ap (lines_items kind earlier at) cut
    ∙ ap (λ found. go_on earlier at found (λ next. lines_items kind next (suc at) (some.0 ∷ some.1))) read
    ∙ ap (lines_items kind (earlier ++ item ∷ []) (suc at)) (sym some.2)
    ∙ lines_read kind (earlier ++ item ∷ []) items (suc at) h.1 k.2
    ∙ ap (λ (is : List Item). Ok is) (append_assoc earlier (item ∷ []) items)

head_clear : (kind : Kind) → Clear is_line_feed (heading kind)
head_clear Object = (refl, (refl, (refl, (refl, tt))))
head_clear Image = (refl, (refl, (refl, (refl, tt))))

headed : (kind : Kind) (head : List ℕ) (tail : List (List ℕ))
    → headed_items kind (heading kind ∷ head ∷ tail) ≡ lines_items kind [] 2 (head ∷ tail)
headed Object head tail = refl
headed Image head tail = refl

-- a right text is read as its items
pub file_reads : (kind : Kind) (text : List ℕ) (items : List Item) → Says kind text items → file_items kind text ≡ Ok items
file_reads kind text items s =
    let rest : List ℕ = flat_map item_line items in
    let some = split_some is_line_feed rest in
    ap (file_items kind) s.spelled
    ∙ ap (headed_items kind)
    (slice_split_at is_line_feed (heading kind) 10 rest (all_clear is_line_feed (heading kind) (head_clear kind)) refl)
    ∙ ap (λ ls. headed_items kind (heading kind ∷ ls)) some.2
    ∙ headed kind some.0 some.1
    ∙ ap (lines_items kind [] 2) (sym some.2)
    ∙ lines_read kind [] items 2 s.right s.declared
