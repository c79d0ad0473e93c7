-- What is settled stays settled where wirings grow, with the same offer and the same sources.
use Rattle.std.proofs.Common.{ℕ, List}
use Rattle.osgi_base.specs.declared.ids.RevisionId.{RevisionId}
use Rattle.osgi_world.specs.Hopeless.{ReachedFrom, Settles, first, more}
use Rattle.osgi_world.specs.Sources.{Clash, Implied, Sources}
use Rattle.osgi_world.specs.declared.wiring.Wiring.{Wiring}
use Rattle.osgi_world.specs.declared.world.Known.{Known}
use Rattle.osgi_resolver_theory.proofs.Agree.{Part, bundle-part, implied-same, reexport-part, sources-same, uses-part}

-- V grew from W, and what was closed is closed still and holds what it held
pub record Grew (K : List Known) (W V : List Wiring) (Closed Closed' : RevisionId → Type 0) : Type 0 where
  pub up : (r : RevisionId) → Part K W V r
  pub kept : (r : RevisionId) → Closed r → Part K V W r
  pub still : (r : RevisionId) → Closed r → Closed' r

pub reached-back : {K : List Known} {W V : List Wiring} {r : RevisionId} → Part K V W r → ((c : RevisionId) → ReachedFrom K W r c → Part K V W c) → {c : RevisionId} → ReachedFrom K V r c → ReachedFrom K W r c
reached-back here each (first b) = first (bundle-part here b)
reached-back here each (more l a) = let m = reached-back here each l in more m (reexport-part (each _ m) a)

pub settled-stays : {K : List Known} {W V : List Wiring} {C C' : RevisionId → Type 0} → Grew K W V C C' → {r : RevisionId} → Settles K W C r → Settles K V C' r
settled-stays g s = record {
  own = g.still _ s.own;
  reached = λ c l. g.still c (s.reached c (reached-back (g.kept _ s.own) (λ d m. g.kept d (s.reached d m)) l));
}

pub settled-sources : {K : List Known} {W V : List Wiring} {C C' : RevisionId → Type 0} → Grew K W V C C' → {r x : RevisionId} {p : List ℕ} → Settles K W C r → Sources K W r p x → Sources K V r p x
settled-sources {K = K} {W = W} g {r = r} s = sources-same (ReachedFrom K W r) (λ c l. g.up c) (λ c l. g.kept c (s.reached c l)) (λ c d l a. more l a) (g.up r) (g.kept r s.own) (λ c b. first b)

pub settled-sources_back : {K : List Known} {W V : List Wiring} {C C' : RevisionId → Type 0} → Grew K W V C C' → {r x : RevisionId} {p : List ℕ} → Settles K W C r → Sources K V r p x → Sources K W r p x
settled-sources_back {K = K} {W = W} g {r = r} s = sources-same (ReachedFrom K W r) (λ c l. g.kept c (s.reached c l)) (λ c l. g.up c) (λ c d l a. more l (reexport-part (g.kept c (s.reached c l)) a)) (g.kept r s.own) (g.up r) (λ c b. first (bundle-part (g.kept r s.own) b))

pub settled-implied : {K : List Known} {W V : List Wiring} {C C' : RevisionId → Type 0} → Grew K W V C C' → {r e : RevisionId} {u : List ℕ} → Implied K W (Settles K W C) r e u → Settles K W C e × Implied K V (Settles K V C') r e u
settled-implied g = implied-same (λ r s. settled-stays g s) (λ r p x s. settled-sources g s) (λ e p u s. uses-part (g.up e))

pub settled-clash : {K : List Known} {W V : List Wiring} {C C' : RevisionId → Type 0} → Grew K W V C C' → {r e : RevisionId} {u : List ℕ} → Settles K W C r → Settles K W C e → Clash K W r e u → Clash K V r e u
settled-clash g sr se c = record {
  ours = c.ours;
  ours_in = settled-sources g sr c.ours_in;
  ours_out = λ s. c.ours_out (settled-sources_back g se s);
  theirs = c.theirs;
  theirs_in = settled-sources g se c.theirs_in;
  theirs_out = λ s. c.theirs_out (settled-sources_back g sr s);
}
