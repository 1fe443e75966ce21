-- Some deeds after others.
use Rattle.std.proofs.Common.{◌≡◌, List, [], ◌∷◌, ◌++◌, ◌∙◌, refl, ap, sym}
use Rattle.std.proofs.lemmas.Grind.{flat_map-append}
use Rattle.edge_traits.specs.declared.entries.Put.{Put}
use Rattle.std.specs.FinMap.{insert}
use Rattle.file_map.specs.FileMaps.{Files}
use Rattle.edge_traits.specs.Kits.{KitView}
use Rattle.edge_traits.specs.Deeds.{Deed, run_of, fetch_of, exchange_of, put_of, moment_of, puts_in, files_put, DidIn}
use Rattle.edge_traits.proofs.ToldLemmas.{Grew-join, Grew-refl}

pub files_put-append : (files : Files) (a b : List Put) → files_put (files_put files a) b ≡ files_put files (a ++ b)
files_put-append files [] b = refl
files_put-append files (file ∷ a) b = files_put-append (insert files file.path file.bytes) a b

-- what is done after what was done
pub DidIn-join : {a b c : KitView} {x y : List Deed} → DidIn a b x → DidIn b c y → DidIn a c (x ++ y)
DidIn-join {a = a} {x = x} {y = y} first second = record {
  runs = Grew-join first.runs second.runs (sym (flat_map-append run_of x y));
  fetches = Grew-join first.fetches second.fetches (sym (flat_map-append fetch_of x y));
  exchanges = Grew-join first.exchanges second.exchanges (sym (flat_map-append exchange_of x y));
  puts = Grew-join first.puts second.puts (sym (flat_map-append put_of x y));
  moments = Grew-join first.moments second.moments (sym (flat_map-append moment_of x y));
  files = record {
    known = λ k. first.files.known (second.files.known k);
    became = λ k. second.files.became k ∙ ap (λ files. files_put files (puts_in y)) (first.files.became (second.files.known k))
        ∙ files_put-append a.keeper.files.value (puts_in x) (puts_in y)
        ∙ ap (λ puts. files_put a.keeper.files.value puts) (sym (flat_map-append put_of x y));
  };
}

-- nothing was done
pub DidIn-nothing : (kit : KitView) → DidIn kit kit []
DidIn-nothing kit = record {
  runs = Grew-refl _;
  fetches = Grew-refl _;
  exchanges = Grew-refl _;
  puts = Grew-refl _;
  moments = Grew-refl _;
  files = record { known = λ k. k; became = λ k. refl };
}
