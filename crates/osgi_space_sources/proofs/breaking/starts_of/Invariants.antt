-- The exports that the revisions so far see are there.
use Rattle.std.proofs.Common.{ℕ, Contains, take}
use Rattle.osgi_space_sources.specs.computed.Amongst.{IsAmong}
use Rattle.osgi_space_sources.specs.computed.Givens.{IsSeen}
use Rattle.osgi_space_sources.specs.computed.Leads.{StartsWith}
use Rattle.osgi_space_sources.specs.declared.given.Given.{Given}
use Rattle.osgi_space_sources.proofs.breaking.starts_of.Given as goal

abbrev pub invariant-loop-revision : goal.invariant-loop-revision
invariant-loop-revision l = (n : ℕ) → Contains (take l.revision-index l.revisions) n → (h : Given) → IsSeen l.rows n h → StartsWith l.rows (IsAmong l.among) l.found h
