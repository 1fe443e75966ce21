use Rattle.daemon_service.proofs.Services as services
use Rattle.daemon_service.proofs.laws.one_reading_of_services.Goals as goal

pub returns : goal.returns
returns c = record {
  whole = services.whole;
  fault = services.refused;
  short = services.short;
  end = services.end;
  runs = services.one_run;
}
