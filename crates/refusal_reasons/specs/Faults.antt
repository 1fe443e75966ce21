-- What is printed for the faults of host lists, job lists and lines of needs.
use Rattle.std.specs.Prelude.{ℕ, List, codes}
use Rattle.host_list.specs.declared.fault.HostFault.{HostFault}
use Rattle.host_list.specs.declared.fault.HostFault.TheVariants as host
use Rattle.job_graph.specs.declared.fault.GraphFault.{GraphFault}
use Rattle.job_graph.specs.declared.fault.GraphFault.TheVariants.{BadNeed, NoJobAfter}
use Rattle.job_list.specs.declared.fault.JobFault.{JobFault}
use Rattle.job_list.specs.declared.fault.JobFault.TheVariants as job

abbrev pub host_reason : HostFault → List ℕ
host_reason host.Ssh = codes "hosts aren't reached through ssh"
host_reason host.HostOption = codes "host options aren't taken"
host_reason host.Zeroconf = codes "hosts aren't sought by zeroconf"
host_reason host.BadPort = codes "a port has to be a number from 1 to 65535"
host_reason host.BadLimit = codes "a limit has to be a number from 1 to 255"
host_reason host.BadName = codes "no host has such a name"
host_reason host.TooMany = codes "it is the 17th host, and 16 are taken"
host_reason host.UnknownOption = codes "this option isn't known"

abbrev pub job_reason : JobFault → List ℕ
job_reason job.OpenQuote = codes "a quote isn't closed on its line"
job_reason job.BadEscape = codes "the last byte of the line is a backslash"
job_reason job.NoJobs = codes "no line of the list is a job"
job_reason job.TooMany = codes "it is the 513th job, and 512 are taken"
job_reason (job.TooLong bytes) = codes "the list has more than 16777216 bytes"
job_reason (job.SameOutput first second) = codes "an earlier job writes the same output"
job_reason job.NotText = codes "the line isn't UTF-8, or holds a zero byte"

abbrev pub needs_reason : GraphFault → List ℕ
needs_reason BadNeed = codes "each word after needs: has to be the number of a job"
needs_reason NoJobAfter = codes "no job follows the line"
