-- How files become known one by one.
use Rattle.std.proofs.Common.{◌≡◌, ⊎_elim, ℕ, Bool, true, false, cond, not, List, [], ◌∷◌, ◌++◌, Option, Some, None, refl, ap, sym, ◌∙◌}
use Rattle.std.proofs.Common.{subst, length, ◌≤◌}
use Rattle.std.specs.Prelude.{nat_eq, ◌||◌, Err}
use Rattle.std.specs.Ordering.{nat_cmp}
use Rattle.std.specs.declared.cmp.Ordering.TheVariants.{Equal}
use Rattle.std.specs.Cmp.Lexicographic.{slice_cmp, nat_list_cmp_total, texts_ties, same_text}
use Rattle.std.specs.FinMap.{get, insert, empty, get-insert, get-empty, get-retain_keys, slice_cmp-IsAntisymmetric, nat_cmp-IsAntisymmetric}
use Rattle.std.specs.Str.{bytes_eq}
use Rattle.std.proofs.lemmas.Bool.{cases_Bool}
use Rattle.std.proofs.lemmas.Cmp.{nat_list_eq_equiv}
use lib.Pointwise.{pointwise}
use Rattle.farm_types.specs.Limits.{source_max}
use Rattle.farm_types.specs.declared.ran.Ran.{Ran}
use Rattle.arg_scan.specs.Names.{is_reserved}
use Rattle.file_map.specs.FileMaps.{Files}
use Rattle.sample_compiler.specs.declared.stops.ExpandFault.{ExpandFault}
use Rattle.sample_compiler.specs.declared.stops.ExpandStop.{ExpandStop}
use Rattle.sample_compiler.specs.declared.stops.ExpandStop.TheVariants.{Fault}
use Rattle.sample_compiler.specs.declared.task.Task.{Task}
use Rattle.sample_compiler.specs.Lookups.{Agrees, Stopped, is_listed}
use Rattle.sample_compiler.specs.Samples.{task_text, LeavesAsked, LeftBy}
use Rattle.sample_compiler.specs.Loads.{unstaged, AreShort}

same_name : (a b : List ℕ) → slice_cmp nat_cmp a b ≡ Equal → a ≡ b
same_name = slice_cmp-IsAntisymmetric nat_cmp-IsAntisymmetric

get_unstaged : (files : Files) (path : List ℕ) → get (unstaged files) path ≡ cond (not (is_reserved path)) (get files path) None
get_unstaged files path =
    get-retain_keys files (λ p. not (is_reserved p)) path (λ x same. ap (λ p. not (is_reserved p)) (sym (same_name path x same)))

-- a name that is kept for files that are being written
pub get_reserved : (files : Files) (path : List ℕ) → is_reserved path ≡ true → get (unstaged files) path ≡ None
get_reserved files path reserved = get_unstaged files path ∙ ap (λ r. cond (not r) (get files path) None) reserved

pub get_plain : (files : Files) (path : List ℕ) → is_reserved path ≡ false → get (unstaged files) path ≡ get files path
get_plain files path plain = get_unstaged files path ∙ ap (λ r. cond (not r) (get files path) None) plain

-- nothing is known
pub nothing_agrees : (known files : Files) (absent : List (List ℕ)) → known ≡ empty → absent ≡ [] → Agrees known absent false files
nothing_agrees known files absent none bare = record {
  there = λ path content is. let gone : get known path ≡ None = ap (λ m. get m path) none ∙ get-empty (slice_cmp nat_cmp) path in
      absurd (cc);
  gone = λ path not_there listed. let unlisted : is_listed absent path ≡ false = ap (λ names. is_listed names path) bare in absurd (cc);
}

-- the known files agree with themselves
pub self_agrees : (known : Files) (absent : List (List ℕ)) (whole : Bool) → Agrees known absent whole known
self_agrees known absent whole = record { there = λ path content is. is; gone = λ path gone listed. gone }

either : (a b : Bool) → (a || b) ≡ true → a ≡ false → b ≡ true
either true b h other = absurd (cc)
either false b h other = h

pub at_end : (names : List (List ℕ)) (name path : List ℕ)
    → is_listed (names ++ name ∷ []) path ≡ (is_listed names path || bytes_eq name path)
at_end [] name path = last (bytes_eq name path)
  where
    last : (b : Bool) → (b || false) ≡ (false || b)
    last true = refl
    last false = refl
at_end (n ∷ names) name path = ap (λ r. bytes_eq n path || r) (at_end names name path)
    ∙ regroup (bytes_eq n path) (is_listed names path) (bytes_eq name path)
  where
    regroup : (a b c : Bool) → (a || (b || c)) ≡ ((a || b) || c)
    regroup true b c = refl
    regroup false b c = refl

pub same_bytes : (name : List ℕ) → bytes_eq name name ≡ true
same_bytes name = nat_list_eq_equiv.refl name

-- one name more that is no file
pub absent_agrees : (known files : Files) (absent more : List (List ℕ)) (name : List ℕ) → more ≡ absent ++ name ∷ []
    → get files name ≡ None → Agrees known absent false files → Agrees known more false files
absent_agrees known files absent more name grown none a = record {
  there = a.there;
  gone = λ path not_there listed.
      let now : (is_listed absent path || bytes_eq name path) ≡ true = sym (at_end absent name path)
      ∙ ap (λ names. is_listed names path) (sym grown) ∙ listed in
      ⊎_elim (λ before. a.gone path not_there before)
      (λ other. let same : name ≡ path =
      same_text name path (sym (either (is_listed absent path) (bytes_eq name path) now other)) in
      ap (λ p. get files p) (sym same) ∙ none)
      (cases_Bool (is_listed absent path));
}

pub put_at : (known : Files) (path content q : List ℕ)
    → get (insert known path content) q ≡ cond (pointwise nat_eq q path) (Some content) (get known q)
put_at known path content q = get-insert nat_list_cmp_total known path content q
    ∙ ap (λ test. cond test (Some content) (get known q)) (sym (texts_ties q path))

-- one file more
pub there_agrees : (known now files : Files) (absent : List (List ℕ)) (path content : List ℕ) → now ≡ insert known path content
    → get files path ≡ Some content → Agrees known absent false files → Agrees now absent false files
there_agrees known now files absent path content grown is a = record {
  there = λ q bytes at. ⊎_elim
      (λ same. let here : get now q ≡ Some content = at_q q ∙ ap (λ test. cond test (Some content) (get known q)) same in
      let one : q ≡ path = same_text q path (sym same) in
      let alike : Some content ≡ Some bytes = sym here ∙ at in
      ap (λ p. get files p) one ∙ is ∙ alike)
      (λ other. let before : get now q ≡ get known q = at_q q ∙ ap (λ test. cond test (Some content) (get known q)) other in
      a.there q bytes (sym before ∙ at))
      (cases_Bool (pointwise nat_eq q path));
  gone = λ q none listed. ⊎_elim
      (λ same. let here : get now q ≡ Some content = at_q q ∙ ap (λ test. cond test (Some content) (get known q)) same in absurd (cc))
      (λ other. let before : get now q ≡ get known q = at_q q ∙ ap (λ test. cond test (Some content) (get known q)) other in
      a.gone q (sym before ∙ none) listed)
      (cases_Bool (pointwise nat_eq q path));
}
  where
    at_q : (q : List ℕ) → get now q ≡ cond (pointwise nat_eq q path) (Some content) (get known q)
    at_q q = ap (λ m. get m q) grown ∙ put_at known path content q

-- no file is fetched yet
pub none_short : (known : Files) → known ≡ empty → AreShort known
none_short known none = λ path content is. let gone : get known path ≡ None = ap (λ m. get m path) none
    ∙ get-empty (slice_cmp nat_cmp) path in absurd (cc)

-- one file more, of few bytes
pub one_short : (known now : Files) (path content : List ℕ) → now ≡ insert known path content → length content ≤ source_max
    → AreShort known → AreShort now
one_short known now path content grown few short = λ q bytes at.
    let at_q : get now q ≡ cond (pointwise nat_eq q path) (Some content) (get known q) =
    ap (λ m. get m q) grown ∙ put_at known path content q in
    ⊎_elim
    (λ same. let here : get now q ≡ Some content = at_q ∙ ap (λ test. cond test (Some content) (get known q)) same in
    let one : content ≡ bytes = cc in
    subst (λ b. length b ≤ source_max) one few)
    (λ other. let before : get now q ≡ get known q = at_q ∙ ap (λ test. cond test (Some content) (get known q)) other in
    short q bytes (sym before ∙ at))
    (cases_Bool (pointwise nat_eq q path))

-- a text is left in the same way over both
pub same_left : (files others : Files) (asked : Option Task) (ran : Ran)
    → ((task : Task) → asked ≡ Some task → task_text files task ≡ task_text others task) → LeavesAsked files asked ran
    → LeavesAsked others asked ran
same_left files others None ran same left = left
same_left files others (Some task) ran same left = subst (λ text. LeftBy task.product text ran) (same task refl) left

-- a fault that is told over all files that are as known
pub same_fault : (known files : Files) (absent names : List (List ℕ)) (task : Task) (line : ℕ) (fault : ExpandFault) (stop : ExpandStop)
    → names ≡ absent → stop ≡ Fault line fault
    → ((fs : Files) → Agrees known names false fs → Stopped false (task_text fs task) stop)
    → Agrees known absent false files → task_text files task ≡ task_text known task
same_fault known files absent names task line fault stop listed is told a =
    let of : (fs : Files) → Agrees known absent false fs → task_text fs task ≡ Err (line, fault) =
    λ fs agrees. subst (λ s. Stopped false (task_text fs task) s) is
    (told fs (subst (λ ns. Agrees known ns false fs) (sym listed) agrees)) in
    of files a ∙ sym (of known (self_agrees known absent false))
