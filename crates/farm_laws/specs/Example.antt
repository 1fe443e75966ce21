-- Two workers, one host with one slot, three jobs: one take is refused, and the preprocessor of one job fails.
use Rattle.std.specs.Prelude.{ℕ, true, false, ◌==◌, if◌then◌else◌, List, [], ◌∷◌, Some, None, codes}
use Rattle.farm_types.specs.declared.placed.Word.TheVariants.{Text}
use Rattle.farm_types.specs.declared.ran.Outcome.{Outcome}
use Rattle.farm_types.specs.declared.hosts.Host.{Host}
use Rattle.farm_types.specs.declared.jobs.JobConfig.{JobConfig}
use Rattle.wire_tokens.specs.Request.{request_text}
use Rattle.wire_tokens.specs.Reply.{reply_text}
use Rattle.edge_traits.specs.declared.entries.Run.{Run}
use Rattle.edge_traits.specs.declared.entries.Exchange.{Exchange}
use Rattle.edge_traits.specs.declared.entries.Put.{Put}
use Rattle.edge_traits.specs.Deeds.{ran, exchanged, put}
use Rattle.slot_table.specs.declared.limits.Limits.{Limits}
use Rattle.slot_table.specs.declared.mask.Mask.{Mask}
use Rattle.slot_table.specs.declared.calls.CallEntry.{CallEntry}
use Rattle.slot_table.specs.declared.calls.SlotCall.TheVariants.{Draw, Take, Give}
use Rattle.slot_table.specs.declared.calls.SlotReply.TheVariants.{Drawn, Got, Full, Given}
use Rattle.slot_table.specs.History.{entry}
use Rattle.farm_machine.specs.declared.reports.By.TheVariants.{Cpp, Remote}
use Rattle.farm_machine.specs.declared.reports.End.{End}
use Rattle.farm_machine.specs.declared.reports.End.TheVariants.{Done}
use Rattle.farm_machine.specs.Jobs.{Job, request_for}
use Rattle.farm_machine.specs.Acts.{Takes, Gives, Act, Did, Met}

-- one host with one slot, and three jobs
abbrev pub limits : Limits 1
limits = record { count = 1; limit = 1 ∷ []; local = false ∷ []; local_slots = 1; jobs = 3; rotate = false }

-- the mask of the one host
abbrev pub all_hosts : Mask
all_hosts = record { bits = 1 }

-- a preprocessor's run that went well, and one that failed
abbrev pub preprocessed : Run
preprocessed = record {
  words = Text (codes "cc") ∷ Text (codes "-E") ∷ Text (codes "a.c") ∷ [];
  input = [];
  ran = record { status = 0; out = codes "int a;"; err = []; object = [] };
}

abbrev pub not_preprocessed : Run
not_preprocessed = record {
  words = Text (codes "cc") ∷ Text (codes "-E") ∷ Text (codes "b.c") ∷ [];
  input = [];
  ran = record { status = 256; out = []; err = codes "b.c: none"; object = [] };
}

-- the commands of the jobs, of which the first two are the same
abbrev pub words_of : ℕ → List (List ℕ)
words_of job = codes "cc" ∷ codes "-c" ∷ (if job == 2 then codes "b.c" else codes "a.c") ∷ []

-- the one host, and no compile here in its place
abbrev pub host : Host
host = record { name = record { text = codes "a" }; port = 3632; limit = 1; local = false }

abbrev pub config : JobConfig
config = record {
  hosts = record { list = host ∷ []; local_slots = 1; local_cpp = 1; randomize = false };
  fallback = false;
  retry = false;
  period = 60;
  tries = 1;
}

abbrev pub jobs : ℕ → Job
jobs job = record { words = words_of job; config = config }

-- what the host answers
abbrev pub outcome : Outcome
outcome = record { status = 0; err = []; out = []; object = codes "object" }

-- the exchange: the whole request of the command and the preprocessed source, and the whole reply
abbrev pub answered : Exchange
answered = record {
  host = host.name;
  port = host.port;
  dialed = true;
  sent = request_text (request_for (jobs 0) preprocessed.ran.out);
  given = reply_text outcome;
  ended = true;
  stopped = false;
  faults = 0;
}

-- the put of the object
abbrev pub delivered : Put
delivered = record { path = codes "a.o"; bytes = codes "object" }

abbrev pub compiled : List Act
compiled = Did (ran preprocessed) ∷ Met (Takes 0) ∷ Did (exchanged answered) ∷ Met (Gives 0) ∷ Did (put delivered) ∷ []

-- worker 0 did jobs 0 and 2, and worker 1 job 1
abbrev pub worker_of : ℕ → ℕ
worker_of job = if job == 1 then 1 else 0

abbrev pub acts_of : ℕ → List Act
acts_of job = if job == 2 then Did (ran not_preprocessed) ∷ [] else compiled

abbrev pub end_of : ℕ → End
end_of job = if job == 2 then Done 256 [] (codes "b.c: none") [] Cpp else Done 0 [] [] [] (Remote 0)

-- the calls, of which the fourth is refused
abbrev pub calls : List CallEntry
calls =
    entry 0 Draw (Drawn (Some 0)) ∷ entry 1 Draw (Drawn (Some 1)) ∷ entry 0 (Take 0 all_hosts 100) (Got 0)
    ∷ entry 1 (Take 1 all_hosts 100) Full
    ∷ entry 0 (Give 0 0) Given ∷ entry 1 (Take 1 all_hosts 101) (Got 0) ∷ entry 0 Draw (Drawn (Some 2)) ∷ entry 1 (Give 0 1) Given
    ∷ entry 0 Draw (Drawn None) ∷ entry 1 Draw (Drawn None) ∷ []
