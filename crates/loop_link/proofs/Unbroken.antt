-- When an exchange over a loop is broken.
use Rattle.std.proofs.Common.{◌≡◌, ◌⊎◌, ℕ, ◌+◌, ◌-◌, ◌^◌, ◌≤◌, ◌||◌, min, Bool, true, false, List, [], ◌∷◌, ◌++◌, length, take, drop, inl}
use Rattle.std.proofs.Common.{inr, refl, sym, ◌∙◌, ap, subst, arith}
use Rattle.std.proofs.lemmas.List.{take-append-drop, append-nil}
use Rattle.farm_types.specs.declared.placed.Word.{Word}
use Rattle.farm_types.specs.declared.ran.Ran.{Ran}
use Rattle.farm_types.specs.declared.request.Request.{Request}
use Rattle.farm_types.specs.declared.hosts.Host.{Host}
use Rattle.farm_types.specs.Fits.{RequestFits}
use Rattle.wire_tokens.specs.declared.faults.ReplyFault.{ReplyFault}
use Rattle.wire_tokens.specs.Request.{BeginsRequest, request_text}
use Rattle.wire_tokens.specs.Reply.{BeginsReply, ReplyFaultStands, reply_text}
use Rattle.wire_tokens.proofs.RequestLaws as requests
use Rattle.wire_tokens.proofs.ReplyLaws as replies
use Rattle.edge_traits.specs.declared.entries.Exchange.{Exchange}
use Rattle.edge_traits.specs.declared.cause.Cause.{Cause}
use Rattle.edge_traits.specs.declared.cause.Cause.TheVariants.{Dial, Send, Recv, Truncated, BadReply, Stopped}
use Rattle.edge_traits.specs.Exchanges.{IsBroken, CutReply}
use Rattle.edge_traits.specs.Stations.{StationView}
use Rattle.daemon_service.specs.declared.compilers.Compiler.{Compiler}
use Rattle.std.proofs.Math.Seq.{take-length}
use Rattle.std.proofs.lemmas.Bool.{leb-true, le-leb}
use Rattle.edge_traits.proofs.CountLemmas.{later-RoseBy}
use Rattle.loop_link.specs.Ends.{BeginsEmpty, SeesAll}
use Rattle.loop_link.specs.Replies.{Gives, Serves, StationRose}
use Rattle.loop_link.specs.Exchanges.{count_rose, station_rose, IsUnanswered}

rose_of_test : (f o : Bool) {F O : Type 0} → (f ≡ true → F) → (o ≡ true → O) → f || o ≡ true → F ⊎ O
rose_of_test true o faults overruns test = inl (faults refl)
rose_of_test false o faults overruns test = inr (overruns test)

-- a test that says so is right
pub rose_by_test : (before now : StationView) → station_rose before now ≡ true → StationRose before now
rose_by_test before now test =
    rose_of_test (count_rose before.faults now.faults) (count_rose before.overruns now.overruns)
    (leb-true (min (before.faults + 1) (2 ^ 64 - 1)) now.faults) (leb-true (min (before.overruns + 1) (2 ^ 64 - 1)) now.overruns) test

test_of_rose : (f o : Bool) → (f ≡ true) ⊎ (o ≡ true) → f || o ≡ true
test_of_rose true o is = refl
test_of_rose false true is = refl
test_of_rose false false (inl is) = is
test_of_rose false false (inr is) = is

pub test_by_rose : (before now : StationView) → StationRose before now → station_rose before now ≡ true
test_by_rose before now (inl rose) =
    test_of_rose (count_rose before.faults now.faults) (count_rose before.overruns now.overruns)
    (inl (le-leb (min (before.faults + 1) (2 ^ 64 - 1)) now.faults rose))
test_by_rose before now (inr rose) =
    test_of_rose (count_rose before.faults now.faults) (count_rose before.overruns now.overruns)
    (inr (le-leb (min (before.overruns + 1) (2 ^ 64 - 1)) now.overruns rose))

module _ (table : List Compiler) (ran : List Word → List ℕ → Ran → Type 0) where
  -- no fault stands in a front of a reply
  faultless : (sent given : List ℕ) (at : ℕ) (fault : ReplyFault) → Gives table ran sent given → ReplyFaultStands given at fault → ⊥
  faultless sent given at fault (inr none) stands =
      replies.empty_is_short.no_fault at fault (subst (λ t. ReplyFaultStands t at fault) none stands)
  faultless sent given at fault (inl front) stands =
      let is = front.is_reply in
      let answers = is.asked.answers in
      let own : BeginsReply (reply_text is.o) (length (reply_text is.o)) is.o =
      subst (λ t. BeginsReply t (length (reply_text is.o)) is.o) (append-nil (reply_text is.o))
      (replies.written_again is.o [] answers.fits answers.small) in
      let longer : ReplyFaultStands front.reply at fault =
      subst (λ t. ReplyFaultStands t at fault) (take-append-drop front.at front.reply)
      (replies.fault_longer (take front.at front.reply) (drop front.at front.reply) at fault
      (subst (λ t. ReplyFaultStands t at fault) front.front stands)) in
      replies.spelled_or_fault (reply_text is.o) (length (reply_text is.o)) at is.o fault own
      (subst (λ t. ReplyFaultStands t at fault) is.text longer)

  module _ (q : Request) (h : Host) (x : Exchange) (there : Bool) (before now : StationView) (fits : RequestFits q.words q.source)
      (no_fault : x.faults ≡ 0) (no_stop : x.stopped ≡ false) (away : x.dialed ≡ false → there ≡ false)
      (rose : IsUnanswered x → station_rose before now ≡ true) (may : x.dialed ≡ true → Gives table ran x.sent x.given) where
    cut : (dialed : Bool) → x.dialed ≡ dialed → CutReply x q → x.ended ≡ true → (there ≡ false) ⊎ StationRose before now
    cut false is shown ended = inl (away is)
    cut true is shown ended = inr (rose_by_test before now (rose (record {
      dialed = is;
      ended = ended;
      q = q;
      used = length (request_text q);
      asked = subst (λ t. BeginsRequest t (length (request_text q)) q) (append-nil (request_text q) ∙ sym shown.sent)
          (requests.written_again q [] fits);
      short = shown.short;
    })))

    bad : (dialed : Bool) (at : ℕ) (fault : ReplyFault) → x.dialed ≡ dialed → ReplyFaultStands x.given at fault
        → (there ≡ false) ⊎ StationRose before now
    bad false at fault is stands = inl (away is)
    bad true at fault is stands = absurd (faultless x.sent x.given at fault (may is) stands)

    pub unbroken : (c : Cause) → IsBroken x q h c → (there ≡ false) ⊎ StationRose before now
    unbroken Dial is = inl (away is.shown.undialed)
    unbroken Send is = absurd (omega (arith, is.shown.1, no_fault))
    unbroken Recv is = absurd (omega (arith, is.shown.1, no_fault))
    unbroken (Truncated have) is = cut x.dialed refl is.shown.0 is.shown.2
    unbroken (BadReply at fault) is = bad x.dialed at fault refl is.shown.1
    unbroken Stopped is = absurd (cc (is.shown.1, no_stop))

  -- a request that was sent whole before the first receive, and got no whole reply
  pub unanswered_rose : (sent given : List ℕ) (x : Exchange) (before dialed now : StationView) → before.faults ≤ dialed.faults
      → before.overruns ≤ dialed.overruns → x.sent ≡ sent → x.given ≡ given → IsUnanswered x
      → Serves table ran sent dialed now given → station_rose before now ≡ true
  unanswered_rose sent given x before dialed now faults overruns is_sent is_given none (inl is) =
      let answers = is.asked.answers in
      let own : BeginsReply (reply_text is.o) (length (reply_text is.o)) is.o =
      subst (λ t. BeginsReply t (length (reply_text is.o)) is.o) (append-nil (reply_text is.o))
      (replies.written_again is.o [] answers.fits answers.small) in
      absurd (none.short.no_value (length (reply_text is.o)) is.o
      (subst (λ t. BeginsReply t (length (reply_text is.o)) is.o) (sym (is_given ∙ is.text)) own))
  unanswered_rose sent given x before dialed now faults overruns is_sent is_given none (inr (nothing, inl no_request)) =
      absurd (no_request none.used none.q (subst (λ t. BeginsRequest t none.used none.q) is_sent none.asked))
  unanswered_rose sent given x before dialed now faults overruns is_sent is_given none (inr (nothing, inr (inl rose))) =
      test_by_rose before now (inl (later-RoseBy 1 before.faults dialed.faults now.faults faults rose))
  unanswered_rose sent given x before dialed now faults overruns is_sent is_given none (inr (nothing, inr (inr rose))) =
      test_by_rose before now (inr (later-RoseBy 1 before.overruns dialed.overruns now.overruns overruns rose))

-- a link that closes at its first receive, and has ended: its service saw all that was sent
pub all_seen : (served closes ended : Bool) (seen at : ℕ) (sent reply : List ℕ) → closes ≡ true → ended ≡ true
    → BeginsEmpty served ended at reply → SeesAll closes served seen sent → take seen sent ≡ sent
all_seen true closes ended seen at sent reply closing end empty all = ap (λ k. take k sent) (all closing refl) ∙ take-length sent
all_seen false closes ended seen at sent reply closing end empty all = absurd (cc ((empty refl).0, end))

-- the last of some, or else the first
abbrev last_of : {A : Type 0} → A → List A → A
last_of d [] = d
last_of d (x ∷ xs) = last_of x xs

last_end : {A : Type 0} (d : A) (xs : List A) (y : A) → last_of d (xs ++ y ∷ []) ≡ y
last_end d [] y = refl
last_end d (x ∷ xs) y = last_end x xs y

-- the one entry that a list has more
pub one_entry : {A : Type 0} (before old now : List A) (x y : A) → now ≡ old ++ y ∷ [] → now ≡ before ++ x ∷ [] → x ≡ y
one_entry before old now x y more next = sym (last_end y before x) ∙ ap (last_of y) (sym next ∙ more) ∙ last_end y old y
