mod PartNodes
