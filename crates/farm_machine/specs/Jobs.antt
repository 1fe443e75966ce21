-- What a job's words and its configuration say of it.
use Rattle.std.specs.Prelude.{◌≡◌, ℕ, ◌<◌, Bool, false, List, [], length, map, slice_index, slice_index_or}
use Rattle.farm_types.specs.declared.jobs.JobConfig.{JobConfig}
use Rattle.farm_types.specs.declared.hosts.Host.{Host}
use Rattle.farm_types.specs.declared.hosts.Hosts.{Hosts}
use Rattle.slot_table.specs.declared.limits.Limits.{Limits}
use Rattle.slot_table.specs.Limits.{is_local}
use Rattle.farm_types.specs.declared.request.Request.{Request}
use Rattle.farm_types.specs.declared.placed.Word.{Word}
use Rattle.farm_types.specs.declared.placed.Word.TheVariants.{Text}
use Rattle.farm_types.specs.Fits.{RequestFits}
use Rattle.arg_scan.specs.Names.{is_preprocessed}
use Rattle.arg_scan.specs.Roles.{word_at}
use Rattle.arg_scan.specs.Class.{input_place, is_remote_verdict, plan_of, verdict_of}
use Rattle.arg_strip.specs.Words.{output_of, placed_words, preprocessing_words, stripped}

-- A job: the words of its command, and how jobs are run.
pub record Job : Type 0 where
  pub words : List (List ℕ)
  pub config : JobConfig

abbrev pub job_of : List (List ℕ) → JobConfig → Job
job_of words config = record { words = words; config = config }

-- The command may be sent. Any other is run here unchanged. So would be one without words, which no list of jobs has.
abbrev pub may_be_sent : Job → Bool
may_be_sent j = is_remote_verdict (verdict_of j.words)

-- the source is preprocessed already
abbrev pub is_source_ready : Job → Bool
is_source_ready j = is_preprocessed (plan_of j.words).ending

-- the name of the source
abbrev pub source_name : Job → List ℕ
source_name j = word_at j.words (input_place j.words)

-- the name of the file that the object is put into
abbrev pub output_name : Job → List ℕ
output_name j = output_of j.words

-- the whole command, unchanged
abbrev pub whole_command : Job → List Word
whole_command j = map Text j.words

-- the command that preprocesses the source here
abbrev pub preprocessing_command : Job → List Word
preprocessing_command j = map Text (preprocessing_words j.words)

-- the command that compiles a preprocessed source here
abbrev pub compile_command : Job → List Word
compile_command j = placed_words j.words

-- the request for a compile of this source, with the words that are sent
abbrev pub request_for : Job → List ℕ → Request
request_for j source = record { words = stripped j.words; source = source }

-- that request is within the limits of requests
abbrev pub CanRequest : Job → List ℕ → Type 0
CanRequest j source = RequestFits (stripped j.words) source

-- the number of entries of the host list
abbrev pub host_count : Job → ℕ
host_count j = length j.config.hosts.list

-- what a look-up after the end of a host list gives; no course looks there
abbrev pub no_host_entry : Host
no_host_entry = record { name = record { text = [] }; port = 0; limit = 0; local = false }

-- the entry at a place of a host list
abbrev pub entry_at : Hosts → ℕ → Host
entry_at hosts place = slice_index_or hosts.list place no_host_entry

abbrev pub host_at : Job → ℕ → Host
host_at j place = entry_at j.config.hosts place

-- the entry is this machine, reached without the network
abbrev pub is_local_host : Job → ℕ → Bool
is_local_host j place = (host_at j place).local

-- These limits are those of the host list: its entries with how many jobs each may work at, local or not, its local slots, and whether jobs
-- begin their search at different entries.
pub record AreLimitsOf {h : ℕ} (l : Limits h) (hosts : Hosts) : Type 0 where
  pub count : l.count ≡ length hosts.list
  pub limit : (place : ℕ) → place < l.count → slice_index l.limit place ≡ (entry_at hosts place).limit
  pub local : (place : ℕ) → place < l.count → is_local l place ≡ (entry_at hosts place).local
  pub local_slots : l.local_slots ≡ hosts.local_slots
  pub rotate : l.rotate ≡ hosts.randomize
