-- Kept rows of nothing, and of a whole world.
use Rattle.std.proofs.Common.{◌≡◌, List, [], length, take, sym, subst, arith}
use Rattle.std.proofs.lemmas.List.{take_all}
use Rattle.osgi_world.specs.declared.wiring.Wiring.{Wiring}
use Rattle.osgi_world.specs.declared.world.Known.{Known}
use Rattle.osgi_space_rows.specs.Agree.{AreRowsOf}
use Rattle.osgi_space_rows.specs.AllKnown.{AreAllKnown}
use Rattle.osgi_space_rows.specs.Names.{name_numbered}
use Rattle.osgi_space_rows.specs.Rows.{RowLists, no_rows}
use Rattle.osgi_space_rows.specs.Worlds.{AreNumbered}
use Rattle.osgi_space_rows.specs.declared.named.Named.{Named}
use Rattle.osgi_space_rows.proofs.MoreKnown.{nothing-all_known, nothing-known, nothing-named}
use Rattle.osgi_space_sources.specs.computed.Disputes.{AreNoted}
use Rattle.osgi_space_sources.specs.declared.disputed.Possible.{Possible}
use Rattle.osgi_space_sources.specs.laws.Noted.{none-noted}
use Rattle.osgi_space.specs.Kept.{FollowsRows}
use Rattle.osgi_space.specs.declared.kept_rows.KeptRows.{KeptRows}

pub follows-nothing : (n : Named) (possible : Possible) → n.names ≡ [] → n.rows ≡ no_rows → (K : List Known) (W : List Wiring) → FollowsRows (record { named = n; possible = possible; known = 0; wirings = 0 }) K W
follows-nothing n possible no_names none K W = record {
  known = omega arith;
  wirings = omega arith;
  all_known = nothing-all_known;
  rows = nothing-known n no_names none;
  numbered = (nothing-named n no_names none).numbered;
  noted = subst (λ (R : RowLists). AreNoted R possible) (sym none) (none-noted possible);
}

pub follows-whole : (kept : KeptRows) (K : List Known) (W : List Wiring) → kept.known ≡ length K → kept.wirings ≡ length W → AreAllKnown K W → AreRowsOf K W (name_numbered kept.named.names) kept.named.rows →
    AreNumbered kept.named.names kept.named.rows → AreNoted kept.named.rows kept.possible → FollowsRows kept K W
follows-whole kept K W all_of_K all_of_W all_known rows numbered noted =
    let known : take kept.known K ≡ K = take_all kept.known K (omega (arith, all_of_K)) in
    let wirings : take kept.wirings W ≡ W = take_all kept.wirings W (omega (arith, all_of_W)) in
    record {
      known = omega (arith, all_of_K);
      wirings = omega (arith, all_of_W);
      all_known = subst (λ (S : List Known). AreAllKnown S (take kept.wirings W)) (sym known) (subst (AreAllKnown K) (sym wirings) all_known);
      rows =
          subst (λ (S : List Known). AreRowsOf S (take kept.wirings W) (name_numbered kept.named.names) kept.named.rows) (sym known)
          (subst (λ (T : List Wiring). AreRowsOf K T (name_numbered kept.named.names) kept.named.rows) (sym wirings) rows);
      numbered = numbered;
      noted = noted;
    }
