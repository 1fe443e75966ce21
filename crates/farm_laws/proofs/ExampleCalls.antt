-- The example agrees.
use Rattle.std.proofs.Common.{◌≡◌, ℕ, zero, suc, ◌<◌, Bool, true, false, ◌&&◌, [], Some, refl, inr, arith}
use Rattle.slot_table.specs.Mask.{in_mask}
use Rattle.slot_table.proofs.Masks.{mask-all}
use Rattle.farm_machine.specs.Acts.{Takes}
use Rattle.farm_machine.specs.Machine.{MaskIs}
use Rattle.farm_machine.specs.Weave.{no_progress, last_progress, IsUsedUp, Agrees}
use Rattle.farm_machine.specs.Farm.{wanted}
use Rattle.farm_laws.specs.Example.{limits, all_hosts, calls}
use Rattle.farm_laws.specs.ExampleRun.{reports}

and-true : (b : Bool) → b ≡ true → (b && true) ≡ true
and-true true e = refl
and-true false e = e

-- the mask has the one entry, and no job took it before
pub mask-is : MaskIs (Some all_hosts) (wanted limits [])
mask-is = and-true (in_mask all_hosts 0) (mask-all 1 0 (omega arith))

used : (j : ℕ) → j < 3 → IsUsedUp (last_progress (no_progress reports) calls) j
used zero h = refl
used (suc zero) h = refl
used (suc (suc zero)) h = refl
used (suc (suc (suc j))) h = absurd (omega arith)

pub agrees : Agrees limits reports (wanted limits) calls
agrees = record {
  legal = (
    record { reply = refl; may = refl },
    (
      record { reply = refl; may = refl },
      (
        record { reply = refl; may = refl },
        (
          record { reply = refl; may = refl },
          (
            record { reply = refl; may = refl },
            (
              record { reply = refl; may = refl },
              (
                record { reply = refl; may = refl },
                (record { reply = refl; may = refl }, (record { reply = refl; may = refl }, (record { reply = refl; may = refl }, tt))),
              ),
            ),
          ),
        ),
      ),
    ),
  );
  follow = (
    refl,
    (
      refl,
      (
        (refl, mask-is, refl),
        (
          (refl, mask-is, (Takes 0, refl, inr (0, refl))),
          ((refl, tt, refl), ((refl, mask-is, refl), (refl, ((refl, tt, refl), (tt, (tt, tt)))))),
        ),
      ),
    ),
  );
  drawn = refl;
  used = used;
}
