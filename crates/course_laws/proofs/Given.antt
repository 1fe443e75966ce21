-- What peers gave and programs left, of parts of the acts.
use Rattle.std.proofs.Common.{List, [], ◌∷◌, ◌++◌, subst, sym}
use Rattle.std.proofs.lemmas.List.{append-nil}
use Rattle.edge_traits.specs.Deeds.{ran, fetched, exchanged, put, timed, exchanges_in, MayAll}
use Rattle.farm_machine.specs.Acts.{Act, Did, Met, deeds_of}
use Rattle.farm_machine.specs.Honest.{Peers, Programs, AllRan}
use Rattle.farm_machine.specs.Numbered.{untimed}
use Rattle.course_laws.specs.Answers.{AllGiven}

pub given-acts : (peers : Peers) (acts : List Act) → MayAll peers (exchanges_in (deeds_of acts)) → AllGiven peers acts
given-acts peers [] may = tt
given-acts peers (Did (ran x) ∷ acts) may = given-acts peers acts may
given-acts peers (Did (fetched x) ∷ acts) may = given-acts peers acts may
given-acts peers (Did (exchanged x) ∷ acts) may = (may.0, given-acts peers acts may.1)
given-acts peers (Did (put x) ∷ acts) may = given-acts peers acts may
given-acts peers (Did (timed moment) ∷ acts) may = given-acts peers acts may
given-acts peers (Met x ∷ acts) may = given-acts peers acts may

pub given-split : (peers : Peers) (acts more : List Act) → AllGiven peers (acts ++ more)
    → AllGiven peers (untimed acts) × AllGiven peers more
given-split peers [] more all = (tt, all)
given-split peers (Did (ran x) ∷ acts) more all = given-split peers acts more all
given-split peers (Did (fetched x) ∷ acts) more all = given-split peers acts more all
given-split peers (Did (exchanged x) ∷ acts) more all = let rest = given-split peers acts more all.1 in ((all.0, rest.0), rest.1)
given-split peers (Did (put x) ∷ acts) more all = given-split peers acts more all
given-split peers (Did (timed moment) ∷ acts) more all = given-split peers acts more all
given-split peers (Met x ∷ acts) more all = given-split peers acts more all

pub ran-split : (programs : Programs) (acts more : List Act) → AllRan programs (acts ++ more)
    → AllRan programs (untimed acts) × AllRan programs more
ran-split programs [] more all = (tt, all)
ran-split programs (Did (ran x) ∷ acts) more all = let rest = ran-split programs acts more all.1 in ((all.0, rest.0), rest.1)
ran-split programs (Did (fetched x) ∷ acts) more all = ran-split programs acts more all
ran-split programs (Did (exchanged x) ∷ acts) more all = ran-split programs acts more all
ran-split programs (Did (put x) ∷ acts) more all = ran-split programs acts more all
ran-split programs (Did (timed moment) ∷ acts) more all = ran-split programs acts more all
ran-split programs (Met x ∷ acts) more all = ran-split programs acts more all

-- what holds of the acts of a front of the acts
pub given-front : (peers : Peers) (acts more : List Act) → AllGiven peers (acts ++ more) → AllGiven peers acts
given-front peers [] more all = tt
given-front peers (Did (ran x) ∷ acts) more all = given-front peers acts more all
given-front peers (Did (fetched x) ∷ acts) more all = given-front peers acts more all
given-front peers (Did (exchanged x) ∷ acts) more all = (all.0, given-front peers acts more all.1)
given-front peers (Did (put x) ∷ acts) more all = given-front peers acts more all
given-front peers (Did (timed moment) ∷ acts) more all = given-front peers acts more all
given-front peers (Met x ∷ acts) more all = given-front peers acts more all

pub ran-front : (programs : Programs) (acts more : List Act) → AllRan programs (acts ++ more) → AllRan programs acts
ran-front programs [] more all = tt
ran-front programs (Did (ran x) ∷ acts) more all = (all.0, ran-front programs acts more all.1)
ran-front programs (Did (fetched x) ∷ acts) more all = ran-front programs acts more all
ran-front programs (Did (exchanged x) ∷ acts) more all = ran-front programs acts more all
ran-front programs (Did (put x) ∷ acts) more all = ran-front programs acts more all
ran-front programs (Did (timed moment) ∷ acts) more all = ran-front programs acts more all
ran-front programs (Met x ∷ acts) more all = ran-front programs acts more all

-- without looks at the clock
pub given-untimed : (peers : Peers) (acts : List Act) → MayAll peers (exchanges_in (deeds_of acts)) → AllGiven peers (untimed acts)
given-untimed peers acts may = (given-split peers acts [] (subst (AllGiven peers) (sym (append-nil acts)) (given-acts peers acts may))).0

pub ran-untimed : (programs : Programs) (acts : List Act) → AllRan programs acts → AllRan programs (untimed acts)
ran-untimed programs acts all = (ran-split programs acts [] (subst (AllRan programs) (sym (append-nil acts)) all)).0
