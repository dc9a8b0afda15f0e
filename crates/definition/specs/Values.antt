-- Values as trees. Every value carries the number of its node, and the children of a list or a map stand in table order, each with its key.
use Rattle.std.specs.Prelude.{ℕ, suc, List, [], ◌∷◌, ◌++◌, Bool, cond, ℤ, Float}
use Rattle.std.proofs.Math.Option.{Option, none, some}
use Rattle.definition.specs.Bytes.{same_bytes}

mutual
  pub data Json : Type 0 where
    null : ℕ → Json
    boolean : ℕ → Bool → Json
    integer : ℕ → ℤ → Json
    float : ℕ → Float → Json
    text : ℕ → List ℕ → Json
    list : ℕ → Kids → Json
    map : ℕ → Kids → Json

  -- a child with its key, which is empty in a list, and the children after it
  pub data Kids : Type 0 where
    nil : Kids
    more : List ℕ → Json → Kids → Kids

-- the node number of a value
unfoldable pub id_of : Json → ℕ
id_of (null i) = i
id_of (boolean i b) = i
id_of (integer i z) = i
id_of (float i x) = i
id_of (text i s) = i
id_of (list i ks) = i
id_of (map i ks) = i

unfoldable pub to_list : Kids → List Json
to_list nil = []
to_list (more k j ks) = j ∷ to_list ks

-- how many children there are
unfoldable pub many : Kids → ℕ
many nil = 0
many (more k j ks) = suc (many ks)

-- the member of the name k
unfoldable pub lookup : List ℕ → Kids → Option Json
lookup k nil = none
lookup k (more h j ks) = cond (same_bytes h k) (some j) (lookup k ks)

-- the elements of a list, the members' values of a map; other values have no children
unfoldable pub children : Json → List Json
children (null i) = []
children (boolean i b) = []
children (integer i z) = []
children (float i x) = []
children (text i s) = []
children (list i ks) = to_list ks
children (map i ks) = to_list ks

-- the elements of a list alone, for indices and slices
unfoldable pub elements : Json → List Json
elements (null i) = []
elements (boolean i b) = []
elements (integer i z) = []
elements (float i x) = []
elements (text i s) = []
elements (list i ks) = to_list ks
elements (map i ks) = []

-- the members of a map alone, for names
unfoldable pub members : Json → Kids
members (null i) = nil
members (boolean i b) = nil
members (integer i z) = nil
members (float i x) = nil
members (text i s) = nil
members (list i ks) = nil
members (map i ks) = ks

-- "the node, then each child's descent, in table order"
unfoldable mutual
  pub descend : Json → List Json
  descend (null i) = null i ∷ []
  descend (boolean i b) = boolean i b ∷ []
  descend (integer i z) = integer i z ∷ []
  descend (float i x) = float i x ∷ []
  descend (text i s) = text i s ∷ []
  descend (list i ks) = list i ks ∷ descend_all ks
  descend (map i ks) = map i ks ∷ descend_all ks

  pub descend_all : Kids → List Json
  descend_all nil = []
  descend_all (more k j ks) = descend j ++ descend_all ks
