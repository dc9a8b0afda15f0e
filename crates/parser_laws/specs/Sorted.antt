-- Sorts and their numbers.
use Rattle.std.specs.Prelude.{◌≡◌, refl}
use Rattle.std.proofs.Common.{sym, ap, ◌∙◌}
use Rattle.compile_writes.specs.Sorts.{Sort}
use Rattle.compile_writes.specs.Sorts.Sort.{literal_sort, singular_sort, nodes_sort, value_sort, logical_sort}
use Rattle.parser_follow.specs.Numbers.{sort_number, sort_of}

-- a sort is the one with its number
pub sort_of_lem : (s : Sort) → sort_of (sort_number s) ≡ s
sort_of_lem literal_sort = refl
sort_of_lem singular_sort = refl
sort_of_lem nodes_sort = refl
sort_of_lem value_sort = refl
sort_of_lem logical_sort = refl

pub same_sort : {s t : Sort} → sort_number s ≡ sort_number t → s ≡ t
same_sort {s} {t} e = sym (sort_of_lem s) ∙ ap sort_of e ∙ sort_of_lem t
