mod Faces
