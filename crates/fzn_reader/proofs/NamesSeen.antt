-- The map of names, seen as the list of declarations.
use Rattle.std.proofs.Common.{◌≡◌, ℕ, List, [], ◌∷◌, ◌++◌, cond, refl, ap, ◌∙◌, Some, None, Option, map, Bor}
use Rattle.std.specs.Str.{bytes_eq}
use Rattle.std.specs.Map.{lookup}
use Rattle.std.proofs.lemmas.List.{map_push}
use Rattle.indexmap.specs.IndexMap.{IndexMap, insert_entry}
use Rattle.indexmap.proofs.CallerLemmas.{insert_entry-new}
use Rattle.fzn_reader.specs.declared.decl.Decl.{Decl}
use Rattle.fzn_reader.specs.Names.{find_name}

abbrev pub shown : Bor (List ℕ) × Decl → List ℕ × Decl
shown e = (e.0.now, e.1)

pub seen_find : (es : List (Bor (List ℕ) × Decl)) (name : List ℕ) → lookup (λ k. bytes_eq name k.now) es ≡ find_name (map shown es) name
seen_find [] name = refl
seen_find (e ∷ es) name = ap (λ (rest : Option Decl). cond (bytes_eq name e.0.now) (Some e.1) rest) (seen_find es name)

pub seen_insert : {S : Type 0} (m : IndexMap (Bor (List ℕ)) Decl S) (name : Bor (List ℕ)) (decl : Decl) (es : List (Bor (List ℕ) × Decl)) → find_name (map shown m.entries) name.now ≡ None
    → es ≡ insert_entry (λ a b. bytes_eq a.now b.now) m.entries name decl → map shown es ≡ map shown m.entries ++ (name.now, decl) ∷ []
seen_insert m name decl es none e =
    ap (map shown) (e ∙ insert_entry-new (λ a b. bytes_eq a.now b.now) m name decl (seen_find m.entries name.now ∙ none)) ∙ map_push shown m.entries (name, decl)
