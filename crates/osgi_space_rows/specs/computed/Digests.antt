-- The digest of a text.
use Rattle.std.specs.Prelude.{ℕ, ◌+◌, ◌*◌, ◌%◌, ◌^◌, List, fold}
use Rattle.osgi_space_rows.specs.declared.digest.TheConstants.{SPREAD}

-- a number that the bytes determine
unfoldable pub digest_of : List ℕ → ℕ
digest_of bytes = fold (λ digest byte. (digest * SPREAD % 2 ^ 64 + byte) % 2 ^ 64) 0 bytes
