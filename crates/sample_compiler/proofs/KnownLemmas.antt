-- How names become known one by one, in the order in which they are looked up first.
use Rattle.std.proofs.Common.{Bool, true, false, ◌≡◌, ⊎_elim, inl, inr, cond, ℕ, List, [], ◌∷◌, ◌++◌, Some, None, refl, ap, sym, ◌∙◌}
use Rattle.std.proofs.Common.{subst, append_assoc}
use Rattle.std.specs.Prelude.{IsTrue, if◌then◌else◌, ◌||◌, ◌⊎◌, nat_eq, is_some}
use Rattle.std.specs.FinMap.{get, insert, empty, get-empty}
use Rattle.std.specs.List.{flat_map}
use Rattle.std.specs.Str.{bytes_eq}
use lib.Pointwise.{pointwise}
use Rattle.std.proofs.lemmas.List.{append-nil}
use Rattle.std.proofs.lemmas.Bool.{cases_Bool}
use Rattle.edge_traits.specs.Told.{Told, Grew}
use Rattle.edge_traits.specs.declared.entries.Fetch.{Fetch}
use Rattle.edge_traits.specs.Keepers.{KeeperView}
use Rattle.file_map.specs.FileMaps.{Files}
use Rattle.sample_compiler.specs.declared.loading.LoadFault.{LoadFault}
use Rattle.sample_compiler.specs.declared.loading.LoadFault.TheVariants.{Failed, TooMuch, Memory}
use Rattle.sample_compiler.specs.Lookups.{is_listed}
use Rattle.sample_compiler.specs.Loads.{entry_of, entry_at, entries_at, unstaged, FetchedFront, LongNamed, HasAbsent, OverrunsStand}
use Rattle.sample_compiler.specs.Loads.{HidesNone, LoadFailed, LoadWent, OnlyFetched}
use Rattle.sample_compiler.specs.declared.task.Task.{Task}
use Rattle.sample_compiler.specs.Seeking.{is_known, first_unknown, firsts_after, task_names}
use Rattle.std.specs.Cmp.Lexicographic.{slice_cmp, nat_list_eq_equiv, same_text}
use Rattle.std.specs.Ordering.{nat_cmp}
use Rattle.sample_compiler.proofs.LoadLemmas.{at_end, put_at, same_bytes}
use Rattle.sample_compiler.proofs.Fetching.{cause_then}

-- these names are known, and no others
abbrev pub Knows : Files → List (List ℕ) → List (List ℕ) → Type 0
Knows known absent seen = (name : List ℕ) → is_known known absent name ≡ is_listed seen name

or_true : (b : Bool) → (b || true) ≡ true
or_true true = refl
or_true false = refl

or_false : (b : Bool) → (b || false) ≡ b
or_false true = refl
or_false false = refl

-- a name that was listed is listed among more
listed_more : (seen : List (List ℕ)) (name path : List ℕ) → is_listed seen path ≡ true → is_listed (seen ++ name ∷ []) path ≡ true
listed_more seen name path listed = at_end seen name path ∙ ap (λ b. b || bytes_eq name path) listed

listed_last : (seen : List (List ℕ)) (name : List ℕ) → is_listed (seen ++ name ∷ []) name ≡ true
listed_last seen name = at_end seen name name ∙ ap (λ b. is_listed seen name || b) (same_bytes name) ∙ or_true (is_listed seen name)

-- the first name that isn't known is the next of the names
pub next_first : (known : Files) (absent seen names : List (List ℕ)) (path : List ℕ) → Knows known absent seen
    → first_unknown known absent names ≡ Some path
    → firsts_after seen names ≡ path ∷ firsts_after (seen ++ path ∷ []) names
next_first known absent seen [] path knows is = absurd (cc)
next_first known absent seen (name ∷ names) path knows is =
    ⊎_elim
    (λ here. let listed : is_listed seen name ≡ true = sym (knows name) ∙ here in
    let later : first_unknown known absent names ≡ Some path =
    sym (ap (λ b. if b then first_unknown known absent names else Some name) here) ∙ is in
    ap (λ b. if b then firsts_after seen names else name ∷ firsts_after (seen ++ name ∷ []) names) listed
    ∙ next_first known absent seen names path knows later
    ∙ ap (λ b. path ∷ (if b then firsts_after (seen ++ path ∷ []) names else name ∷ firsts_after ((seen ++ path ∷ []) ++ name ∷ [])
    names)) (sym (listed_more seen path name listed)))
    (λ other. let unlisted : is_listed seen name ≡ false = sym (knows name) ∙ other in
    let same : Some name ≡ Some path = sym (ap (λ b. if b then first_unknown known absent names else Some name) other) ∙ is in
    let one : name ≡ path = cc in
    ap (λ b. if b then firsts_after seen names else name ∷ firsts_after (seen ++ name ∷ []) names) unlisted
    ∙ ap (λ b. name ∷ (if b then firsts_after (seen ++ name ∷ []) names else name ∷ firsts_after ((seen ++ name ∷ []) ++ name ∷ [])
    names)) (sym (listed_last seen name))
    ∙ ap (λ p. p ∷ firsts_after (seen ++ p ∷ []) (name ∷ names)) one)
    (cases_Bool (is_known known absent name))

-- where all are known there is no next
pub none_next : (known : Files) (absent seen names : List (List ℕ)) → Knows known absent seen
    → first_unknown known absent names ≡ None → firsts_after seen names ≡ []
none_next known absent seen [] knows is = refl
none_next known absent seen (name ∷ names) knows is =
    ⊎_elim
    (λ here. let listed : is_listed seen name ≡ true = sym (knows name) ∙ here in
    let later : first_unknown known absent names ≡ None =
    sym (ap (λ b. if b then first_unknown known absent names else Some name) here) ∙ is in
    ap (λ b. if b then firsts_after seen names else name ∷ firsts_after (seen ++ name ∷ []) names) listed
    ∙ none_next known absent seen names knows later)
    (λ other. let same : Some name ≡ None = sym (ap (λ b. if b then first_unknown known absent names else Some name) other) ∙ is in
    absurd (cc))
    (cases_Bool (is_known known absent name))

-- it is one of the names
pub next_listed : (known : Files) (absent names : List (List ℕ)) (path : List ℕ) → first_unknown known absent names ≡ Some path
    → is_listed names path ≡ true
next_listed known absent [] path is = absurd (cc)
next_listed known absent (name ∷ names) path is =
    ⊎_elim
    (λ here. let later : first_unknown known absent names ≡ Some path =
    sym (ap (λ b. if b then first_unknown known absent names else Some name) here) ∙ is in
    ap (λ b. bytes_eq name path || b) (next_listed known absent names path later) ∙ or_true (bytes_eq name path))
    (λ other. let same : Some name ≡ Some path = sym (ap (λ b. if b then first_unknown known absent names else Some name) other) ∙ is in
    let one : name ≡ path = cc in
    ap (λ b. b || is_listed names path) (ap (λ n. bytes_eq n path) one ∙ same_bytes path))
    (cases_Bool (is_known known absent name))

-- ---- fetches

flat_append : {A B : Type 0} (f : A → List B) (xs ys : List A) → flat_map f (xs ++ ys) ≡ flat_map f xs ++ flat_map f ys
flat_append f [] ys = refl
flat_append f (x ∷ xs) ys = ap (λ r. f x ++ r) (flat_append f xs ys) ∙ sym (append_assoc (f x) (flat_map f xs) (flat_map f ys))

entries_more : (files : Files) (seen : List (List ℕ)) (path : List ℕ) → entries_at files (seen ++ path ∷ []) ≡ entries_at files seen
    ++ entry_at files path
entries_more files seen path = flat_append (entry_at files) seen (path ∷ [])
    ∙ ap (λ e. entries_at files seen ++ e) (append-nil (entry_at files path))

grew_both : {T : Type 0} (a b c : Told (List T)) (one two : List T) → Grew a b one → Grew b c two → Grew a c (one ++ two)
grew_both a b c one two first second = record {
  known = λ told. first.known (second.known told);
  grew = λ told. second.grew told ∙ ap (λ x. x ++ two) (first.grew (second.known told)) ∙ append_assoc a.value one two;
}

pub grew_nothing : {T : Type 0} (a : Told (List T)) → Grew a a []
grew_nothing a = record { known = λ told. told; grew = λ told. sym (append-nil a.value) }

-- a name that is no file leaves no entry
pub entry_absent : (files : Files) (path : List ℕ) (a b : Told (List Fetch)) → get files path ≡ None → Grew a b []
    → Grew a b (entry_at files path)
entry_absent files path a b gone grew = subst (λ e. Grew a b e) (ap (entry_of path) (sym gone)) grew

pub entry_there : (files : Files) (path content : List ℕ) (a b : Told (List Fetch)) → get files path ≡ Some content
    → Grew a b (record { path = path; bytes = content } ∷ []) → Grew a b (entry_at files path)
entry_there files path content a b there grew = subst (λ e. Grew a b e) (ap (entry_of path) (sym there)) grew

-- the one file was fetched
pub front_one : (files : Files) (path : List ℕ) (a b : Told (List Fetch)) → Grew a b (entry_at files path)
    → FetchedFront files (path ∷ []) a b
front_one files path a b grew =
    record { front = path ∷ []; rest = []; parts = refl; grew = subst (λ e. Grew a b e) (sym (append-nil (entry_at files path))) grew }

-- So far these names are known and were fetched, and the others of the names come next.
pub record Loading (files : Files) (known : Files) (absent names : List (List ℕ)) (old now : Told (List Fetch)) : Type 0 where
  pub seen : List (List ℕ)
  pub knows : Knows known absent seen
  pub left : firsts_after [] names ≡ seen ++ firsts_after seen names
  pub grew : Grew old now (entries_at files seen)

-- nothing was looked up yet
pub nothing_loaded : (files known : Files) (absent names : List (List ℕ)) (now : Told (List Fetch)) → known ≡ empty → absent ≡ []
    → Loading files known absent names now now
nothing_loaded files known absent names now none all = record {
  seen = [];
  knows = λ name. ap (λ m. is_some (get m name) || is_listed absent name) none
      ∙ ap (λ found. is_some found || is_listed absent name) (get-empty (slice_cmp nat_cmp) name) ∙ ap (λ ns. is_listed ns name) all;
  left = refl;
  grew = grew_nothing now;
}

-- after a fetch the files are the same
pub loading_on : (b c : KeeperView) (known : Files) (absent : List (List ℕ)) (task : Task) (old now : Told (List Fetch))
    → OnlyFetched b c → IsTrue c.files.known
    → Loading (unstaged b.files.value) known absent (task_names (unstaged b.files.value) task) old now
    → Loading (unstaged c.files.value) known absent (task_names (unstaged c.files.value) task) old now
loading_on b c known absent task old now only told loading =
    subst (λ files. Loading (unstaged files) known absent (task_names (unstaged files) task) old now) (sym (only.files.became told)) loading

pub loading_more : (files known more : Files) (absent gone names : List (List ℕ)) (path : List ℕ) (old now next : Told (List Fetch))
    → Loading files known absent names old now → first_unknown known absent names ≡ Some path
    → ((name : List ℕ) → is_known more gone name ≡ (is_known known absent name || bytes_eq path name))
    → Grew now next (entry_at files path) → Loading files more gone names old next
loading_more files known more absent gone names path old now next l first learned fetched = record {
  seen = l.seen ++ path ∷ [];
  knows = λ name. learned name ∙ ap (λ b. b || bytes_eq path name) (l.knows name) ∙ sym (at_end l.seen path name);
  left = l.left ∙ ap (λ r. l.seen ++ r) (next_first known absent l.seen names path l.knows first)
      ∙ sym (append_assoc l.seen (path ∷ []) (firsts_after (l.seen ++ path ∷ []) names));
  grew = subst (λ e. Grew old next e) (sym (entries_more files l.seen path))
      (grew_both old now next (entries_at files l.seen) (entry_at files path) l.grew fetched);
}

-- all of them were fetched
pub loading_done : (files known : Files) (absent names : List (List ℕ)) (old now : Told (List Fetch))
    → Loading files known absent names old now → first_unknown known absent names ≡ None
    → Grew old now (entries_at files (firsts_after [] names))
loading_done files known absent names old now l first =
    let all : firsts_after [] names ≡ l.seen = l.left ∙ ap (λ r. l.seen ++ r) (none_next known absent l.seen names l.knows first)
    ∙ append-nil l.seen in
    subst (λ ns. Grew old now (entries_at files ns)) (sym all) l.grew

-- some first of them were fetched
pub loading_stopped : (files known : Files) (absent names : List (List ℕ)) (old now : Told (List Fetch))
    → Loading files known absent names old now → FetchedFront files (firsts_after [] names) old now
loading_stopped files known absent names old now l =
    record { front = l.seen; rest = firsts_after l.seen names; parts = l.left; grew = l.grew }

cut_one : (path : List ℕ) (front rest : List (List ℕ)) → (path ∷ []) ≡ front ++ rest → (front ≡ []) ⊎ (front ≡ path ∷ [])
cut_one path [] rest is = inl refl
cut_one path (name ∷ []) rest is = inr (ap (λ n. n ∷ []) (sym (cc)))
cut_one path (name ∷ other ∷ front) rest is = absurd (cc)

pub loading_failed : (files known : Files) (absent names : List (List ℕ)) (path : List ℕ) (old now next : Told (List Fetch))
    → Loading files known absent names old now → first_unknown known absent names ≡ Some path
    → FetchedFront files (path ∷ []) now next → FetchedFront files (firsts_after [] names) old next
loading_failed files known absent names path old now next l first tried =
    let after : firsts_after [] names ≡ (l.seen ++ path ∷ []) ++ firsts_after (l.seen ++ path ∷ []) names =
    l.left ∙ ap (λ r. l.seen ++ r) (next_first known absent l.seen names path l.knows first)
    ∙ sym (append_assoc l.seen (path ∷ []) (firsts_after (l.seen ++ path ∷ []) names)) in
    ⊎_elim
    (λ none. record {
      front = l.seen;
      rest = firsts_after l.seen names;
      parts = l.left;
      grew = subst (λ e. Grew old next e) (ap (λ f. entries_at files l.seen ++ entries_at files f) none
          ∙ append-nil (entries_at files l.seen))
          (grew_both old now next (entries_at files l.seen) (entries_at files tried.front) l.grew tried.grew);
    })
    (λ one. record {
      front = l.seen ++ path ∷ [];
      rest = firsts_after (l.seen ++ path ∷ []) names;
      parts = after;
      grew = subst (λ e. Grew old next e) (ap (λ f. entries_at files l.seen ++ entries_at files f) one
          ∙ sym (flat_append (entry_at files) l.seen (path ∷ [])))
          (grew_both old now next (entries_at files l.seen) (entries_at files tried.front) l.grew tried.grew);
    })
    (cut_one path tried.front tried.rest tried.parts)

-- ---- one name learned

pub learned_absent : (known : Files) (absent more : List (List ℕ)) (path name : List ℕ) → more ≡ absent ++ path ∷ []
    → is_known known more name ≡ (is_known known absent name || bytes_eq path name)
learned_absent known absent more path name grown =
    ap (λ ns. is_some (get known name) || is_listed ns name) grown
    ∙ ap (λ b. is_some (get known name) || b) (at_end absent path name)
    ∙ regroup (is_some (get known name)) (is_listed absent name) (bytes_eq path name)
  where
    regroup : (a b c : Bool) → (a || (b || c)) ≡ ((a || b) || c)
    regroup true b c = refl
    regroup false b c = refl

pub learned_there : (known now : Files) (absent : List (List ℕ)) (path content name : List ℕ) → now ≡ insert known path content
    → is_known now absent name ≡ (is_known known absent name || bytes_eq path name)
learned_there known now absent path content name grown =
    ap (λ found. is_some found || is_listed absent name) (ap (λ m. get m name) grown ∙ put_at known path content name)
    ∙ alike (pointwise nat_eq name path) (is_listed absent name)
    ∙ ap (λ b. (is_some (get known name) || is_listed absent name) || b) (nat_list_eq_equiv.symm name path)
  where
    alike : (same listed : Bool) → (is_some (cond same (Some content) (get known name)) || listed)
        ≡ ((is_some (get known name) || listed) || same)
    alike true listed = sym (or_true (is_some (get known name) || listed))
    alike false listed = sym (or_false (is_some (get known name) || listed))

-- ---- a file that was too long

pub long_among : (now : KeeperView) (names : List (List ℕ)) (path : List ℕ) (fault : LoadFault)
    → (IsTrue now.files.known → is_listed names path ≡ true) → LongNamed now (path ∷ []) fault → LongNamed now names fault
long_among now names path Failed listed long = tt
long_among now names path (TooMuch bytes) listed long = λ told.
    let one = long told in
    let same : path ≡ one.0 = same_text path one.0 (sym (sym (or_false (bytes_eq path one.0)) ∙ one.1)) in
    (one.0, ap (is_listed names) (sym same) ∙ listed told, one.2)
long_among now names path Memory listed long = tt

-- ---- overruns

-- a name that is no file
pub one_absent : (old now : KeeperView) (path : List ℕ) → (IsTrue now.files.known → get now.files.value path ≡ None)
    → OverrunsStand old now (path ∷ [])
one_absent old now path none =
    λ told. inr (record { path = path; listed = or_false (bytes_eq path path) ∙ same_bytes path; absent = none told })

-- one name after others
pub stands_then : (start before after : KeeperView) (task : Task) (path : List ℕ) → OnlyFetched before after
    → (IsTrue after.files.known → is_listed (task_names (unstaged after.files.value) task) path ≡ true)
    → OverrunsStand start before (task_names (unstaged before.files.value) task) → OverrunsStand before after (path ∷ [])
    → OverrunsStand start after (task_names (unstaged after.files.value) task)
stands_then start before after task path only listed first last told =
    ⊎_elim
    (λ still.
    ⊎_elim
    (λ s. inl (s ∙ still))
    (λ gone.
    let same : path ≡ gone.path = same_text path gone.path (sym (sym (or_false (bytes_eq path gone.path)) ∙ gone.listed)) in
    inr (record {
      path = path;
      listed = listed told;
      absent = subst (λ (p : List ℕ). get after.files.value p ≡ None) (sym same) gone.absent;
    }))
    (last told))
    (λ gone. inr (subst (λ (files : Files). HasAbsent files (task_names (unstaged files) task)) (sym (only.files.became told)) gone))
    (first (only.files.known told))

pub hides_then : (start before after : KeeperView) (task : Task) (path : List ℕ) (fault : LoadFault) → OnlyFetched before after
    → (IsTrue after.files.known → is_listed (task_names (unstaged after.files.value) task) path ≡ true)
    → OverrunsStand start before (task_names (unstaged before.files.value) task) → HidesNone before after (path ∷ []) fault
    → HidesNone start after (task_names (unstaged after.files.value) task) fault
hides_then start before after task path Failed only listed first last = tt
hides_then start before after task path (TooMuch bytes) only listed first last = tt
hides_then start before after task path Memory only listed first last = stands_then start before after task path only listed first last

-- a load of one name that failed after others is a load of all of them that failed
pub failed_then : (start before after : KeeperView) (task : Task) (path : List ℕ) (fault : LoadFault) → OnlyFetched before after
    → (IsTrue after.files.known → is_listed (task_names (unstaged after.files.value) task) path ≡ true)
    → OnlyFetched start before → LoadWent start before (task_names (unstaged before.files.value) task)
    → LoadFailed before after (path ∷ []) fault → LoadFailed start after (task_names (unstaged after.files.value) task) fault
failed_then start before after task path fault only listed first went failed = record {
  cause = cause_then start before after fault first went.calm failed.cause;
  named = long_among after (task_names (unstaged after.files.value) task) path fault listed failed.named;
  hides = hides_then start before after task path fault only listed went.missed failed.hides;
}
