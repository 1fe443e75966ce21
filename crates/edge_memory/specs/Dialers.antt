-- What a dialer whose links follow scripts is in, and what its calls do to it.
use Rattle.std.specs.Prelude.{◌≡◌, ℕ, List, ◌∷◌, ◌++◌, [], drop, true, false, Result, Ok, Err}
use Rattle.farm_types.specs.declared.hosts.HostName.{HostName}
use Rattle.edge_traits.specs.declared.entries.Exchange.{Exchange}
use Rattle.edge_traits.specs.declared.faults.EdgeFault.{EdgeFault}
use Rattle.edge_traits.specs.declared.faults.EdgeFault.TheVariants.{Failed, Memory}
use Rattle.edge_traits.specs.Told.{told}
use Rattle.edge_traits.specs.Links.{LinkView}
use Rattle.edge_traits.specs.Dialers.{DialerView, dial_entries, hung}
use Rattle.edge_memory.specs.declared.script.LinkScript.{LinkScript}
use Rattle.edge_memory.specs.declared.link.MemLink.{MemLink}
use Rattle.edge_memory.specs.declared.dialer.MemDialer.{MemDialer}
use Rattle.edge_traits.specs.Calls.{names_next, one_more, failed_calls}
use Rattle.edge_memory.specs.Scripts.{first_or, ends_at_once}
use Rattle.edge_memory.specs.Links.{link_state, new_link}

-- the scripts of links that are still to be dialed, which dials fail, how many there were, counted up to the greatest u64, and the entries
pub record DialerState : Type 0 where
  pub links : List LinkScript
  pub fails : List ℕ
  pub made : ℕ
  pub exchanges : List Exchange

abbrev pub dialer_state : MemDialer → DialerState
dialer_state dialer = record {
  links = dialer.links.items;
  fails = dialer.calls.fails;
  made = dialer.calls.made;
  exchanges = dialer.exchanges;
}

-- what it shows
abbrev pub dialer_shows : DialerState → DialerView
dialer_shows dialer = record { exchanges = told dialer.exchanges; faults = failed_calls dialer.fails dialer.made }

-- The next dial may return this. One that isn't to fail gives a link of the next script, or one that ends at once if the scripts
-- are used up. Each dial may run out of memory, since its entry takes some.
abbrev pub IsDialAnswer : DialerState → HostName → ℕ → Result MemLink EdgeFault → Type 0
IsDialAnswer dialer host port (Ok link) = (names_next dialer.fails dialer.made ≡ false)
    × (link_state link ≡ new_link (first_or ends_at_once dialer.links) (record { host = host; port = port }) true false)
IsDialAnswer dialer host port (Err Failed) = names_next dialer.fails dialer.made ≡ true
IsDialAnswer dialer host port (Err Memory) = Unit {0}

-- the scripts after a dial: one that became a link is used up
abbrev pub links_after : {L : Type 0} → List LinkScript → Result L EdgeFault → List LinkScript
links_after links (Ok link) = drop 1 links
links_after links (Err fault) = links

-- how many dials there were after one: one that ran out of memory doesn't count, and its number is the next one's
abbrev pub dials_after : {L : Type 0} → ℕ → Result L EdgeFault → ℕ
dials_after made (Ok link) = one_more made
dials_after made (Err Failed) = one_more made
dials_after made (Err Memory) = made

abbrev pub after_dial : {L : Type 0} → DialerState → HostName → ℕ → Result L EdgeFault → DialerState
after_dial dialer host port result = record dialer {
  made = dials_after dialer.made result;
  links = links_after dialer.links result;
  exchanges = dialer.exchanges ++ dial_entries host port result;
}

abbrev pub after_hang_up : DialerState → LinkView → DialerState
after_hang_up dialer link = record dialer { exchanges = dialer.exchanges ++ hung link ∷ [] }
