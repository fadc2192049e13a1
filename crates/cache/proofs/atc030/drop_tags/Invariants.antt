use Rattle.std.proofs.Common.{ℕ, ◌≡◌, ◌/◌, ◌%◌, ◌&&◌, ◌||◌, eqb}
use Rattle.definition.specs.Words.{agrees}
use Rattle.cache.specs.Packed.{drop_tag}
use Rattle.cache.specs.Atc030.{tags_of}
use Rattle.cache.proofs.Lists.{map_to}
use Rattle.cache.proofs.atc030.drop_tags.Given as goal

abbrev pub invariant-loop-t : goal.invariant-loop-t
invariant-loop-t l =
    l.t-items ≡ map_to (λ (t : ℕ). drop_tag (agrees (t / 2 % 8) l.code l.mask && (l.every || eqb (t / 16) l.page)) t) l.t-index (tags_of l.fn.c030)
