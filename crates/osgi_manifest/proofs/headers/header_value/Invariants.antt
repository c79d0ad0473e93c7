-- What is sought is among the headers that are left.
use Rattle.std.proofs.Common.{◌≡◌, drop}
use Rattle.std.specs.Prelude.{find}
use Rattle.std.specs.Str.{str_eq_ignore_ascii_case}
use Rattle.osgi_header.specs.declared.header.Header.{Header}
use Rattle.osgi_manifest.proofs.headers.header_value.Given as goal

abbrev pub invariant-loop-header : goal.invariant-loop-header
invariant-loop-header l =
    find (λ (h : Header). str_eq_ignore_ascii_case h.name l.name) l.headers ≡ find (λ (h : Header). str_eq_ignore_ascii_case h.name l.name) (drop l.header-index l.headers)
