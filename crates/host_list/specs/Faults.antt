-- The numbers of the faults.
use Rattle.std.specs.Prelude.{ℕ}
use Rattle.host_list.specs.declared.fault.HostFault.{HostFault}
use Rattle.host_list.specs.declared.fault.HostFault.TheVariants.{Ssh, HostOption, Zeroconf, BadPort, BadLimit, BadName, TooMany}
use Rattle.host_list.specs.declared.fault.HostFault.TheVariants.{UnknownOption}

-- the number of a fault in messages
abbrev pub host_fault_number : HostFault → ℕ
host_fault_number Ssh = 1
host_fault_number HostOption = 2
host_fault_number Zeroconf = 3
host_fault_number BadPort = 4
host_fault_number BadLimit = 5
host_fault_number BadName = 6
host_fault_number TooMany = 7
host_fault_number UnknownOption = 8
