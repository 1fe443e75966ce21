use Rattle.std.proofs.Common.{ℕ, List, [], refl, sym, subst, arith}
use Rattle.std.proofs.lemmas.List.{nil_from_length}
use Rattle.std.proofs.lemmas.Grind.{common_steps}
use Rattle.edge_traits.specs.Keepers.{HasPending}
use Rattle.edge_traits.proofs.Putting.{Prepared, is-there, prepared-more, prepared-none, committed-files, committed-puts}
use Rattle.edge_traits.proofs.keeper.Keeper.put.Goals.{then-not-is_empty+in_ok-add, else-not-is_empty}
use Rattle.edge_traits.proofs.keeper.Keeper.put.Given
use Rattle.edge_traits.proofs.keeper.Keeper.put.Goals as goal

prepared : (g : Given.Over) (c : goal.After-commit g) → Prepared (g.Self.Keeper.shows c.args.self.now)
    (g.Self.Keeper.shows c.if-not-is_empty.self) c.args.path.now c.args.bytes.now
prepared g c =
    let b = c.in_ok-begin.ensures in elim c.if-not-is_empty.branch [
      | then-not-is_empty+in_ok-add w ↦
          let a = w.in_ok-add.ensures in
          subst (λ self. Prepared (g.Self.Keeper.shows c.args.self.now) (g.Self.Keeper.shows self) c.args.path.now c.args.bytes.now)
          (sym w.self-is)
          (prepared-more (g.Self.Keeper.shows c.args.self.now) (g.Self.Keeper.shows c.begin.new.self)
          (g.Self.Keeper.shows w.add.new.self) c.args.path.now c.args.bytes.now
          (prepared-none (g.Self.Keeper.shows c.args.self.now) (g.Self.Keeper.shows c.begin.new.self) c.args.path.now [] refl
          b.begun b.files b.puts) (a.added c.args.path.now [] b.begun) a.files a.puts)
      | else-not-is_empty w ↦
          subst (λ self. Prepared (g.Self.Keeper.shows c.args.self.now) (g.Self.Keeper.shows self) c.args.path.now c.args.bytes.now)
          (sym w.self-is)
          (prepared-none (g.Self.Keeper.shows c.args.self.now) (g.Self.Keeper.shows c.begin.new.self) c.args.path.now
          c.args.bytes.now (nil_from_length c.args.bytes.now (grind (arith, common_steps))) b.begun b.files b.puts)
    ]

pub commit-requires : goal.commit-requires
commit-requires g c =
    let b = c.in_ok-begin.ensures in
    let waits : HasPending (g.Self.Keeper.shows c.if-not-is_empty.self) c.args.path.now c.args.bytes.now =
    elim c.if-not-is_empty.branch [
      | then-not-is_empty+in_ok-add w ↦
          subst (λ self. HasPending (g.Self.Keeper.shows self) c.args.path.now c.args.bytes.now) (sym w.self-is)
          (w.in_ok-add.ensures.added c.args.path.now [] b.begun)
      | else-not-is_empty w ↦
          subst (λ self. HasPending (g.Self.Keeper.shows self) c.args.path.now c.args.bytes.now) (sym w.self-is)
          (subst (λ (bytes : List ℕ). HasPending (g.Self.Keeper.shows c.begin.new.self) c.args.path.now bytes)
          (sym (nil_from_length c.args.bytes.now (grind (arith, common_steps)))) b.begun)
    ] in
    record { pending = is-there (g.Self.Keeper.shows c.if-not-is_empty.self) c.args.path.now c.args.bytes.now waits }

pub returns-clause-files : goal.returns-clause-files
returns-clause-files g c =
    let mid = prepared g c in
    committed-files (g.Self.Keeper.shows c.args.self.now) (g.Self.Keeper.shows c.if-not-is_empty.self)
    (g.Self.Keeper.shows c.commit.new.self) c.args.path.now c.args.bytes.now c.commit.result mid
    (c.commit.ensures.files c.args.path.now c.args.bytes.now mid.pending)

pub returns-clause-puts : goal.returns-clause-puts
returns-clause-puts g c =
    let mid = prepared g c in
    committed-puts (g.Self.Keeper.shows c.args.self.now) (g.Self.Keeper.shows c.if-not-is_empty.self)
    (g.Self.Keeper.shows c.commit.new.self) c.args.path.now c.args.bytes.now c.commit.result mid
    (c.commit.ensures.puts c.args.path.now c.args.bytes.now mid.pending)
