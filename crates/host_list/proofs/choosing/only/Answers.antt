use Rattle.std.proofs.Common.{◌≡◌, Option, Some, None, subst}
use Rattle.std.specs.Prelude.{IfOk}
use Rattle.farm_types.specs.declared.hosts.Hosts.{Hosts}
use Rattle.host_list.specs.Only.{OnlyText, named_in}
use Rattle.host_list.proofs.choosing.only.Goals as goal

none-some : (o : Option Hosts) (hosts : Hosts) → o ≡ Some hosts → o ≡ None → ⊥
none-some None hosts is none = cc
none-some (Some one) hosts is none = cc

one-list : (o : Option Hosts) (a b : Hosts) → o ≡ Some a → o ≡ Some b → a ≡ b
one-list None a b is other = cc
one-list (Some one) a b is other = cc

pub returns-in_default-clause-only : goal.returns-in_default-clause-only
returns-in_default-clause-only c hosts wanted list entry =
    absurd (none-some c.in_ok-hosts.field-0 hosts (c.in_ok-hosts.ensures.listed hosts list) c.in_default.is)

pub returns-in_default-2-clause-only : goal.returns-in_default-2-clause-only
returns-in_default-2-clause-only c hosts wanted list entry =
    absurd (none-some c.in_ok-wanted.field-0 wanted (c.in_ok-wanted.ensures.listed wanted entry) c.in_default-2.is)

pub returns-clause-only : goal.returns-clause-only
returns-clause-only c hosts wanted list entry =
    let same = one-list c.in_ok-hosts.field-0 c.in-Some.hosts hosts c.in-Some.is (c.in_ok-hosts.ensures.listed hosts list) in
    let named = one-list c.in_ok-wanted.field-0 c.in-Some-2.wanted wanted c.in-Some-2.is (c.in_ok-wanted.ensures.listed wanted entry) in
    subst (λ h. IfOk c.text_of.result (OnlyText h (named_in h.list wanted.list))) same
    (subst (λ w. IfOk c.text_of.result (OnlyText c.in-Some.hosts (named_in c.in-Some.hosts.list w.list))) named c.text_of.ensures)

-- a list has no fault
pub returns-clause-faulty : goal.returns-clause-faulty
returns-clause-faulty c at fault stands =
    absurd (none-some c.in_ok-hosts.field-0 c.in-Some.hosts c.in-Some.is (c.in_ok-hosts.ensures.faulty at fault stands))

pub returns-clause-unnamed : goal.returns-clause-unnamed
returns-clause-unnamed c at fault stands =
    absurd (none-some c.in_ok-wanted.field-0 c.in-Some-2.wanted c.in-Some-2.is (c.in_ok-wanted.ensures.faulty at fault stands))
