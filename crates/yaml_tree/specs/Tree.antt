-- A YAML tree with places, as plain data (YAML 1.2, 3.2.1, the representation graph without tags and anchors).
use Rattle.std.specs.Prelude.{ℕ, Bool, List, ℤ}

-- a place in a file: the number of its line, and the characters of the line up to it, itself counted
pub record At : Type 0 where
  pub line : ℕ
  pub column : ℕ

pub data Scalar : Type 0 where
  null : Scalar
  truth : Bool → Scalar
  whole : ℤ → Scalar
  text : List ℕ → Scalar

mutual
  pub data Tree : Type 0 where
    scalar : At → Scalar → Tree
    list : At → Elements → Tree
    map : At → Members → Tree

  pub data Elements : Type 0 where
    no_elements : Elements
    element : Tree → Elements → Elements

  pub data Members : Type 0 where
    no_members : Members
    member : List ℕ → At → Tree → Members → Members

-- an entry of a map
pub record Member : Type 0 where
  pub key : List ℕ
  pub place : At
  pub value : Tree

-- what a document is answered by: its tree, or the code and the place of its refusal
pub data Answer : Type 0 where
  tree : Tree → Answer
  refusal : ℕ × At → Answer
