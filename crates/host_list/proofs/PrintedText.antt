-- The printed text.
use Rattle.std.proofs.Common.{◌≡◌, ℕ, cond, List, [], ◌++◌, ap, ◌∙◌}
use Rattle.std.specs.Prelude.{codes}
use Rattle.std.proofs.lemmas.List.{append_assoc}
use Rattle.farm_types.specs.declared.hosts.Hosts.{Hosts}
use Rattle.host_list.specs.HostLists.{slots_line, options_text}

-- three pieces, one after another
three : (old a b c one two end : List ℕ) → one ≡ old ++ a → two ≡ one ++ b → end ≡ two ++ c → end ≡ old ++ ((a ++ b) ++ c)
three old a b c one two end p q r = r ∙ ap (λ t. t ++ c) (q ∙ ap (λ t. t ++ b) p ∙ append_assoc old a b) ∙ append_assoc old (a ++ b) c

pub put_all : (hosts : Hosts) (old one two end tail : List ℕ) → one ≡ old ++ slots_line (codes "--localslots=") hosts.local_slots
    → two ≡ one ++ slots_line (codes "--localslots_cpp=") hosts.local_cpp → end ≡ two ++ tail
    → tail ≡ cond hosts.randomize (codes "--randomize\n") [] → end ≡ old ++ options_text hosts
put_all hosts old one two end tail p q r is = three old _ _ _ one two end p q (r ∙ ap (λ t. two ++ t) is)
