-- The law of the table of all pairs, proved.
use Rattle.theory_resolution.specs.Table.{Table, WellFormed}
use Rattle.theory_pairs.specs.Pairs.{Known, PairLaw}
use Rattle.theory_pairs.proofs.PairTable.{pairs-length, pair-places-of, pairs-distinct}
use Rattle.theory_pairs.proofs.PairNodes.{pairs-formed}
use Rattle.theory_pairs.proofs.Pairs.{pair-states, pair-agrees, pair-only, pair-agrees-by}

pub pair-law : (ring lamp : Table) → Known ring → WellFormed ring → WellFormed lamp → PairLaw ring lamp
pair-law ring lamp known wr wl =
    record {
      all-pairs = pairs-length ring.cats ring.signals lamp.signals;
      places = pair-places-of ring lamp known;
      formed = pairs-formed ring lamp known wr wl;
      distinct = pairs-distinct ring lamp known;
      states = pair-states ring lamp known wr wl;
      agrees = pair-agrees ring lamp known wr wl;
      only = pair-only ring lamp known wr wl;
      agrees-by = pair-agrees-by ring lamp known wr wl;
    }
